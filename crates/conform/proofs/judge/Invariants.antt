use Rattle.std.proofs.Common.{ℕ, ◌*◌, Bool}
use Rattle.block.specs.Rows.{bit}
use Rattle.block.specs.Calls.{Served}
use Rattle.conform.specs.Judged.{Agree, HasByte}
use Rattle.conform.proofs.judge.Given as goal

abbrev pub invariant-loop-k : goal.invariant-loop-k
invariant-loop-k g l =
    (row : ℕ → Bool)
    → ((k byte : ℕ) → Served g.B.Block.places k → goal.F-post g l.want k byte → HasByte row k byte)
    → Agree (8 * l.k) (bit (g.B.Block.row l.answer)) row
