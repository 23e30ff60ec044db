use Rattle.std.proofs.Common.{◌*◌}
use Rattle.block.specs.Rows.{bit}
use Rattle.conform.specs.Judged.{Agree, repeated}
use Rattle.conform.proofs.fill.Given as goal

abbrev pub invariant-loop-k : goal.invariant-loop-k
invariant-loop-k g l = Agree (8 * l.k) (bit (g.B.Block.row l.block)) (repeated l.bytes)
