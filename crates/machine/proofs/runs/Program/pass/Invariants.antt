use Rattle.std.proofs.Common.{◌≡◌, take}
use Rattle.program.specs.Machine.{runs}
use Rattle.machine.specs.Carrying.{count_of, entering, leaving}
use Rattle.machine.specs.Holding.{holding}
use Rattle.machine.specs.Lending.{Lent}
use Rattle.machine.proofs.runs.Program.pass.Given as goal

abbrev pub invariant-loop-step : goal.invariant-loop-step
invariant-loop-step g l =
    (holding g.B.Block.row l.pass.marks l.registers.blocks.now (leaving l.carries) l.pass.changed
    ≡ runs g.B.Block.places (entering l.fn.carries) (take l.step-index l.self.steps.now)
    (holding g.B.Block.row l.initial.pass.marks l.initial.registers.blocks.now (leaving l.fn.carries) l.initial.pass.changed))
    × (entering l.carries ≡ entering l.initial.carries)
    × (count_of l.carries ≡ count_of l.initial.carries)
    × Lent l.initial.registers l.registers
