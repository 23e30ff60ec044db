use Rattle.std.proofs.Common.{◌≡◌, ℕ, ◌-◌, false}
use Rattle.stream.specs.Tables.{rows}
use Rattle.program.specs.Machine.{runs, repeated}
use Rattle.program.specs.Falls.{vacant}
use Rattle.machine.specs.Carrying.{count_of, entering, leaving}
use Rattle.machine.specs.Holding.{holding}
use Rattle.machine.specs.Lending.{Lent}
use Rattle.machine.proofs.runs.Program.settle.Given as goal

-- the pass that comes is that after j others
abbrev pub invariant-passes : goal.invariant-passes
invariant-passes g l =
    ((j : ℕ)
    × (runs g.B.Block.places (entering l.initial.carries) l.self.steps.now (holding g.B.Block.row l.marks l.registers.blocks.now (leaving l.carries) false)
    ≡ repeated g.B.Block.places (entering l.initial.carries) l.self.steps.now (g.B.Block.row l.marks)
    (holding g.B.Block.row l.marks l.initial.registers.blocks.now (leaving l.initial.carries) false) j))
    × (entering l.carries ≡ entering l.initial.carries)
    × (count_of l.carries ≡ count_of l.initial.carries)
    × Lent l.initial.registers l.registers

abbrev pub decreases-passes : goal.decreases-passes
decreases-passes g l = vacant (rows g.B.Block.row l.registers.blocks.now) l.self.stars.start (l.self.stars.end - l.self.stars.start)
