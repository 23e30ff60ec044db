use Rattle.std.proofs.Common.{◌*◌, ◌^◌, arith, mod-lt, pow_pos}
use lib.Bits.{and_lt, or_lt}
use Rattle.block.proofs.Groups.{row_put}
use Rattle.word.proofs.Words.{put_word}
use Rattle.word.proofs.WordBlock.put.Goals as goal

pub invariant_of-result : goal.invariant_of-result
invariant_of-result c = record { fits = or_lt 64 _ _ (and_lt 64 _ _ c.args.self.fits (omega arith)) (mod-lt (c.from.result * 2 ^ (8 * c.args.k)) (pow_pos 64)) }

pub returns : goal.returns
returns c =
    let k = c.args.k in
    let x = c.args.self.bits in
    rw c.from.ensures (row_put x k c.args.byte _ (omega arith) (put_word x k c.args.byte c.args.self.fits c.if-k-ge-GROUPS.false (omega arith)) 64 (omega arith))
