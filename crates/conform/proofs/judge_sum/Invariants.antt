use Rattle.std.proofs.Common.{◌≡◌, ◌*◌}
use Rattle.block.specs.Rows.{bit}
use Rattle.block.specs.Sums.{over, sum}
use Rattle.conform.specs.Judged.{Agree}
use Rattle.conform.proofs.judge_sum.Given as goal

abbrev pub invariant-loop-k : goal.invariant-loop-k
invariant-loop-k g l =
    let r = g.B.Block.row in
    let a = bit (r l.a) in
    let b = bit (r l.b) in
    Agree (8 * l.k) (bit (r l.total)) (sum a b l.enter) × (l.carry ≡ over a b l.enter (8 * l.k))
