use Rattle.std.proofs.Common.{sym, ap, ◌∙◌, arith}
use lib.Count.{count_trailing_zeros}
use Rattle.word.proofs.Words.{masked, first_none, first_some}
use Rattle.word.proofs.WordBlock.first.Goals as goal

pub returns-then-rest-eq0 : goal.returns-then-rest-eq0
returns-then-rest-eq0 c =
    let x = c.args.self.bits in
    let i = c.args.i in
    first_none x i (sym (masked x i c.args.self.fits c.if-i-ge-PLACES.false) ∙ c.if-rest-eq0.true)

pub returns : goal.returns
returns c =
    let x = c.args.self.bits in
    let i = c.args.i in
    let e = masked x i c.args.self.fits c.if-i-ge-PLACES.false in
    first_some x i _ c.args.self.fits (omega (arith, e)) (ap (count_trailing_zeros 64) e)
