use Rattle.std.proofs.Common.{◌≡◌, ℕ, ◌<◌, ◌≤◌, ◌⊎◌}
use Rattle.block.specs.Calls.{none_row}
use Rattle.stream.specs.Tables.{rows}
use Rattle.machine.specs.Lending.{Lent}
use Rattle.machine.proofs.runs.Program.clear.Given as goal

abbrev pub invariant-loop-r : goal.invariant-loop-r
invariant-loop-r g l =
    ((j : ℕ) → l.self.stars.start ≤ j → j < l.r → rows g.B.Block.row l.registers.blocks.now j ≡ none_row g.B.Block.places)
    × ((j : ℕ) → (j < l.self.stars.start) ⊎ (l.r ≤ j) → rows g.B.Block.row l.registers.blocks.now j ≡ rows g.B.Block.row l.initial.registers.blocks.now j)
    × Lent l.initial.registers l.registers
