use Rattle.std.proofs.Common.{◌≡◌, ℕ, ◌<◌, length}
use Rattle.block.specs.Calls.{none_row}
use Rattle.stream.specs.Tables.{rows}
use Rattle.stream.proofs.transposition.clear.Given as goal

abbrev pub invariant-loop-block : goal.invariant-loop-block
invariant-loop-block g l = record {
  eight : length l.block-items ≡ 8;
  first : (j : ℕ) → j < l.block-index → rows g.B.Block.row l.block-items j ≡ none_row g.B.Block.places;
}
