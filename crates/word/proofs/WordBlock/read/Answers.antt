use Rattle.std.proofs.Common.{ℕ, sym, subst, arith}
use Rattle.block.specs.Rows.{row_of}
use Rattle.block.specs.Calls.{Read}
use Rattle.block.proofs.Groups.{group_is, row_read}
use Rattle.word.proofs.WordBlock.read.Goals as goal

pub returns : goal.returns
returns c =
    let x = c.args.self.bits in
    let k = c.args.k in
    subst (λ (byte : ℕ). Read 64 (row_of 64 x) k byte) (sym (group_is x k)) (row_read 64 x k (omega arith))
