use Rattle.std.proofs.Common.{◌≡◌, ℕ, ◌<◌, ◌≤◌, sym, refl, ap, ◌∙◌, arith}
use Rattle.runlist.specs.declared.list.RunList.{RunList}
use Rattle.runlist.specs.Lists.{lit}
use Rattle.runlist.proofs.Merged.{over_none, run_carry, run_bits}
use Rattle.block.specs.Sums.{over}
use Rattle.runlist.proofs.merge.Goals as goal

pub loop-builder-init : goal.loop-builder-init
loop-builder-init g c =
    let e = c.new-builder.ensures in
    (refl, refl, omega arith, omega arith, over_none _ _ _ ∙ ap (over _ _ _) (sym e), λ f makes j h. absurd (omega arith))

pub loop-builder-preserved : goal.loop-builder-preserved
loop-builder-preserved g c =
    let v = c.loop-builder.invariant in
    let a = lit c.to-left.result.list.now in
    let b = lit c.to-right.result.list.now in
    let enter = c.args.enter in
    let p = c.loop-builder.builder.place in
    let q = c.min-end.result in
    let x = c.bit-x.result in
    let y = c.bit-y.result in
    let carry = c.loop-builder.carry in
    let same_left = c.run-left_run.ensures.list ∙ v.0 in
    let same_right = c.run-right_run.ensures.list ∙ v.1 in
    let ax : (j : ℕ) → p ≤ j → j < q → a j ≡ x = λ j h l. ap (λ (r : RunList). lit r j) (sym same_left) ∙ c.bit-x.ensures.within j (omega arith) (omega arith) in
    let by : (j : ℕ) → p ≤ j → j < q → b j ≡ y = λ j h l. ap (λ (r : RunList). lit r j) (sym same_right) ∙ c.bit-y.ensures.within j (omega arith) (omega arith) in
    let some : p < q = omega arith in
    let end : c.push-in-loop-builder.new.self.place ≡ q = c.push-in-loop-builder.ensures.place in (
      c.until-left.ensures.list ∙ same_left,
      c.until-right.ensures.list ∙ same_right,
      omega arith,
      omega arith,
      c.carried-settled.ensures ∙ run_carry a b enter p q x y carry ax by v.4 q some (omega arith) ∙ ap (over a b enter) (sym end),
      λ f makes j h. run_bits a b enter p q x y carry ax by v.4 f (lit c.loop-builder.builder.list) (lit c.push.new.self.list)
          (lit c.push-in-loop-builder.new.self.list) _ _ (makes _ _ _ _ c.make.ensures) (makes _ _ _ _ c.make-in-loop-builder.ensures ∙ ap (f x y) c.carried-settled.ensures)
          c.push.ensures.here c.push.ensures.before (λ i u l. c.push-in-loop-builder.ensures.here i (omega arith) l)
          (λ i u. c.push-in-loop-builder.ensures.before i (omega arith)) some (v.5 f makes) j (omega arith),
    )

pub returns-clause-row : goal.returns-clause-row
returns-clause-row g c f makes j h =
    rw (sym c.to-left.ensures.list, sym c.to-right.ensures.list) (c.loop-builder.invariant.5 f makes j (omega arith))
