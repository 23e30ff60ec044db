use Rattle.std.proofs.Common.{rules}
use Rattle.doubled.proofs.Answered.{first_either}
use Rattle.doubled.proofs.DoubledBlock.first.Goals as goal

pub returns : goal.returns
returns g c =
    let r = g.B.Block.row in
    let s = c.args.self in
    let wide = g.met.B.Block.wide s.early in
    first_either g.B.Block.places (r s.early) (r s.late) wide c.args.i _ _ c.first.ensures c.or_else.ensures (λ late before. search rules)
