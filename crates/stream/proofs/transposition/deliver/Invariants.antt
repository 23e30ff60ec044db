use Rattle.std.proofs.Common.{◌≡◌, ℕ, ◌<◌, ◌≤◌, length}
use Rattle.stream.specs.Tables.{rows}
use Rattle.stream.proofs.Deliveries.{Stamped}
use Rattle.stream.proofs.transposition.deliver.Given as goal

abbrev pub invariant-loop-j : goal.invariant-loop-j
invariant-loop-j g l = record {
  eight : length l.blocks ≡ 8;
  done : (j : ℕ) → j < l.j → Stamped l.k l.gathered j (rows g.B.Block.row l.initial.blocks j) (rows g.B.Block.row l.blocks j);
  left : (j : ℕ) → l.j ≤ j → rows g.B.Block.row l.blocks j ≡ rows g.B.Block.row l.initial.blocks j;
}
