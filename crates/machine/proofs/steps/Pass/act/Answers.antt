use Rattle.std.proofs.Common.{◌≡◌, false, not, ◌||◌, ◌∙◌, ap, rules}
use Rattle.stream.specs.MatchStar.{star_row, star_out}
use Rattle.theory.specs.Block.{step_row, step_out}
use Rattle.program.specs.Machine.{same, put}
use Rattle.machine.specs.Carrying.{count_of, entering, leaving}
use Rattle.machine.proofs.Arms.{run_arm, more_arm, save_arm, or_arm, grow_arm}
use Rattle.machine.proofs.steps.Pass.act.Goals as goal

pub returns-in-Run-clause-does : goal.returns-in-Run-clause-does
returns-in-Run-clause-does g c =
    let row = g.B.Block.row in
    let w = g.B.Block.places in
    let marks = row c.args.self.marks in
    let class = row c.get-class-in-Run.result in
    let enter = entering c.args.carries.now c.in-Run.carry in
    let kept = c.through-marks-in-Run.ensures.leaving in
    let fell = kept.1 in
    let made : (row c.through-marks-in-Run.result ≡ star_row w marks class enter)
    × (kept.0 ≡ star_out w marks class enter) = search rules in
    run_arm row w (entering c.args.carries.now) c.args.self.marks c.args.registers.now.blocks.now (leaving c.args.carries.now)
    c.args.self.changed (count_of c.args.carries.now) c.args.step c.requires.range c.in-Run.class c.in-Run.carry c.get-class-in-Run.result c.get-class-in-Run.ensures
    c.through-marks-in-Run.result (leaving c.through-marks-in-Run.new.self) c.in-Run.is made.0 (kept.2 ∙ ap (put (leaving c.args.carries.now) c.in-Run.carry) made.1)

pub returns-in-More-clause-does : goal.returns-in-More-clause-does
returns-in-More-clause-does g c =
    let row = g.B.Block.row in
    let w = g.B.Block.places in
    let marks = row c.args.self.marks in
    let class = row c.get-class-in-More.result in
    let enter = entering c.args.carries.now c.in-More.carry in
    let kept = c.through-marks-in-More.ensures.leaving in
    let fell = kept.1 in
    let made : (row c.through-marks-in-More.result ≡ star_row w (step_row w class enter marks) class false)
    × (kept.0 ≡ (step_out w class marks || star_out w (step_row w class enter marks) class false)) = search rules in
    more_arm row w (entering c.args.carries.now) c.args.self.marks c.args.registers.now.blocks.now (leaving c.args.carries.now)
    c.args.self.changed (count_of c.args.carries.now) c.args.step c.requires.range c.in-More.class c.in-More.carry c.get-class-in-More.result c.get-class-in-More.ensures
    c.through-marks-in-More.result (leaving c.through-marks-in-More.new.self) c.in-More.is made.0 (kept.2 ∙ ap (put (leaving c.args.carries.now) c.in-More.carry) made.1)

pub returns-in-Save-clause-does : goal.returns-in-Save-clause-does
returns-in-Save-clause-does g c =
    save_arm g.B.Block.row g.B.Block.places (entering c.args.carries.now) c.args.self.marks c.args.registers.now.blocks.now
    (leaving c.args.carries.now) c.args.self.changed (count_of c.args.carries.now) c.args.step c.requires.range c.in-Save.r c.put.new.self.blocks.now
    c.put.ensures.value c.in-Save.is

pub returns-in-Or-clause-does : goal.returns-in-Or-clause-does
returns-in-Or-clause-does g c =
    or_arm g.B.Block.row g.B.Block.places (entering c.args.carries.now) c.args.self.marks c.args.registers.now.blocks.now
    (leaving c.args.carries.now) c.args.self.changed (count_of c.args.carries.now) c.args.step c.requires.range c.in-Or.r c.get-in-Or.result
    c.get-in-Or.ensures c.or.result c.or.ensures c.put-in-Or.new.self.blocks.now c.put-in-Or.ensures.value c.in-Or.is

pub returns-in-Grow-clause-does : goal.returns-in-Grow-clause-does
returns-in-Grow-clause-does g c =
    let row = g.B.Block.row in
    let w = g.B.Block.places in
    let old = c.get-old.result in
    grow_arm row w (entering c.args.carries.now) c.args.self.marks c.args.registers.now.blocks.now (leaving c.args.carries.now)
    c.args.self.changed (count_of c.args.carries.now) c.args.step c.requires.range c.in-Grow.r old c.get-old.ensures c.or-new.result c.or-new.ensures
    c.put-in-Grow.new.self.blocks.now c.put-in-Grow.ensures.value c.in-Grow.is _ (ap (λ grown. c.args.self.changed || grown) (c.differ-grown.ensures ∙ ap (λ new. not (same new (row old))) c.or-new.ensures))
