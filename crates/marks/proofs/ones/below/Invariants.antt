-- The groups before k are full. Assumes nothing.
use Rattle.std.proofs.Common.{◌≡◌, ℕ, ◌*◌, ◌<◌, ltb}
use Rattle.block.specs.Rows.{bit}
use Rattle.marks.proofs.ones.below.Given as goal

abbrev pub invariant-loop-k : goal.invariant-loop-k
invariant-loop-k g l = (i : ℕ) → i < g.B.Block.places → bit (g.B.Block.row l.ones) i ≡ ltb i (8 * l.k)
