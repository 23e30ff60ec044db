use Rattle.std.proofs.Common.{ℕ, ◌+◌, List, sym, subst}
use Rattle.stream.specs.Tables.{rows}
use Rattle.program.specs.declared.Step.{Step}
use Rattle.program.specs.Compile.{stars_at}
use Rattle.machine.specs.Carrying.{entering}
use Rattle.machine.specs.Blocks.{Ready}
use Rattle.machine.proofs.loaded.Matcher.run.Goals as goal

pub returns-clause-found : goal.returns-clause-found
returns-clause-found g c F t b R =
    let m = c.args.self.now in
    let row = g.B.Block.row in
    let w = g.B.Block.places in
    let from : ℕ = stars_at m.sizes.classes in
    let to : ℕ = from + m.sizes.stars in
    let P₁ : List Step → Type 0 = λ p. Ready F t b w p from to (rows row c.args.blocks.now) (entering m.carries) in
    let R₁ = subst P₁ (sym c.program.ensures) R in
    let P₂ : List _ → Type 0 = λ bs. Ready F t b w c.program.result.now from to (rows row bs) (entering m.carries) in
    c.run.ensures.found F t b (subst P₂ (sym c.over-registers.ensures.value) R₁)
