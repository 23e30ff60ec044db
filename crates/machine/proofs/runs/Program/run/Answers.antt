use Rattle.std.proofs.Common.{arith}
use Rattle.machine.specs.Carrying.{entering, leaving}
use Rattle.machine.proofs.Found.{found}
use Rattle.machine.proofs.runs.Program.run.Goals as goal

pub returns-clause-found : goal.returns-clause-found
returns-clause-found g c =
    let end = c.settle.ensures.settled in
    let some = g.met.B.Block.some in
    let program = c.args.self.now in
    found g.B.Block.row g.B.Block.places c.all.result c.settle.result c.args.registers.now.blocks.now
    c.clear.new.registers.blocks.now c.settle.new.registers.blocks.now (leaving c.args.carries.now) (leaving c.settle.new.carries)
    (omega arith) (entering c.args.carries.now) program.steps.now program.stars.start program.stars.end c.all.ensures
    c.clear.ensures.emptied c.clear.ensures.others end.0 end.1
