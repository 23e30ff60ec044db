use Rattle.std.proofs.Common.{length, get_or, ap, ◌∙◌, arith}
use Rattle.program.specs.declared.Step.TheVariants.{Take}
use Rattle.program.specs.Machine.{does}
use Rattle.program.specs.Compile.{Within}
use Rattle.machine.specs.Carrying.{count_of, entering, leaving}
use Rattle.machine.specs.Holding.{holding}
use Rattle.machine.proofs.Found.{wider_each}
use Rattle.machine.proofs.Lending.{lent_on}
use Rattle.machine.proofs.Passes.{each_at, runs_more}
use Rattle.machine.proofs.runs.Program.pass.Goals as goal

pub act-pass-requires-clause-range : goal.act-pass-requires-clause-range
act-pass-requires-clause-range g c =
    let program = c.args.self.now in
    let steps = program.steps.now in
    let from = program.stars.start in
    let to = program.stars.end in
    let blocks = length c.loop-step.registers.blocks.now in
    let carries = count_of c.loop-step.carries in
    let long = c.loop-step.invariant.2 in
    let lent = c.loop-step.invariant.3 in
    let room = c.requires.room in
    let many = c.requires.many in
    (from, to, each_at (Within blocks carries from to) steps (wider_each _ blocks _ carries from to (omega (arith, lent.long)) (omega arith) steps program.fits) c.loop-step.step-index (Take 0 0) c.loop-step-test.true)

pub loop-step-preserved : goal.loop-step-preserved
loop-step-preserved g c =
    let v = c.loop-step.invariant in
    let steps = c.args.self.now.steps.now in
    let i = c.loop-step.step-index in
    let before = holding g.B.Block.row c.loop-step.pass.marks c.loop-step.registers.blocks.now (leaving c.loop-step.carries) c.loop-step.pass.changed in (
      runs_more g.B.Block.places (entering c.args.carries.now) steps i (Take 0 0) _ before _ c.loop-step-test.true v.0
          (c.act-pass.ensures.does ∙ ap (λ ins. does g.B.Block.places ins (get_or steps i (Take 0 0)) before) v.1),
      c.act-pass.ensures.entering ∙ v.1,
      c.act-pass.ensures.long ∙ v.2,
      lent_on v.3 c.act-pass.ensures.lent,
    )
