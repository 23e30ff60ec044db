use Rattle.std.proofs.Common.{◌≡◌, ◌≤◌, suc, false, length, ap, ◌∙◌, arith}
use Rattle.program.specs.Machine.{runs}
use Rattle.machine.specs.Carrying.{entering, leaving}
use Rattle.machine.specs.Holding.{holding}
use Rattle.machine.proofs.Lending.{lent_on}
use Rattle.machine.proofs.Passes.{falls, passes_more}
use Rattle.machine.proofs.runs.Program.settle.Goals as goal

pub passes-smaller : goal.passes-smaller
passes-smaller g c =
    let program = c.args.self.now in
    let from = program.stars.start in
    let to = program.stars.end in
    let lent = c.passes.invariant.3 in
    let size = lent.long in
    let room = c.requires.room in
    let within : to ≤ length c.passes.registers.blocks.now = let w = program.within in omega arith in
    falls g.B.Block.row g.B.Block.places g.met.B.Block.wide (entering c.passes.carries) program.rows program.carries program.steps.now from to
    program.order program.fits c.passes.registers.blocks.now within c.args.marks
    (leaving c.passes.carries) c.pass-pass.result.marks c.pass-pass.new.registers.blocks.now (leaving c.pass-pass.new.carries)
    c.pass-pass.result.changed c.pass-pass.ensures.runs c.if-not-pass.false

pub passes-preserved : goal.passes-preserved
passes-preserved g c =
    let row = g.B.Block.row in
    let marks = c.args.marks in
    let ins = entering c.args.carries.now in
    let v = c.passes.invariant in
    let j = v.0.0 in
    let last = holding row c.pass-pass.result.marks c.pass-pass.new.registers.blocks.now (leaving c.pass-pass.new.carries) c.pass-pass.result.changed in
    let begun = holding row marks c.passes.registers.blocks.now (leaving c.passes.carries) false in
    let run : last ≡ runs g.B.Block.places ins c.args.self.now.steps.now begun = c.pass-pass.ensures.runs ∙ ap (λ i. runs g.B.Block.places i c.args.self.now.steps.now begun) v.1 in (
      (
        suc j,
        passes_more g.B.Block.places ins c.args.self.now.steps.now (row marks)
            (holding row marks c.args.registers.now.blocks.now (leaving c.args.carries.now) false) begun last j run v.0.1,
      ),
      c.pass-pass.ensures.entering ∙ v.1,
      c.pass-pass.ensures.long ∙ v.2,
      lent_on v.3 c.pass-pass.ensures.lent,
    )
