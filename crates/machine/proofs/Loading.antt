-- A form that was read and compiled fits. Assumes nothing.
use Rattle.std.proofs.Common.{◌≡◌, ℕ, ◌+◌, ◌≤◌, List, [], length, sym, ◌∙◌, subst, arith}
use Rattle.stream.specs.declared.set.ByteSet.{ByteSet}
use Rattle.limits.specs.Limits.{heaviest}
use Rattle.form.specs.Form.{Form, weight}
use Rattle.theory.specs.Passes.{stars}
use Rattle.theory.specs.Written.{written}
use Rattle.program.specs.declared.Step.{Step}
use Rattle.program.specs.Numbered.{leaves}
use Rattle.program.specs.Compile.{Within, Each, classes_at, stars_at, feeds_at}
use Rattle.program.specs.Sizes.{brackets, class_count}
use Rattle.program.proofs.Sizes.{form_rows_lem}
use Rattle.classes.specs.Numbered.{Are}
use Rattle.classes.proofs.Adding.{are_long}
use Rattle.emit.specs.Whole.{CompiledFrom, program_of, table_of}
use Rattle.emit.specs.declared.compiled.Compiled.{Compiled}
use Rattle.emit.specs.declared.compiled.Sizes.{Sizes}
use Rattle.machine.proofs.Found.{form_fits}

module _ (F : Form) (x : Compiled) (n : Sizes) (C : CompiledFrom F x n) where
  pub compiled_classes : length (table_of x) ≡ n.classes
  compiled_classes = are_long (table_of x) _ C.sets ∙ sym C.classes

  pub compiled_stars : stars_at n.classes + n.stars ≤ n.rows
  compiled_stars = let a = C.classes in let b = C.stars in let r = C.rows in omega arith

  pub compiled_rows : n.rows ≤ classes_at + weight F
  compiled_rows = let r = C.rows in omega (arith, form_rows_lem F)

  pub compiled_fits : brackets F ≤ feeds_at → leaves (written F) ≤ heaviest
      → Each (Within n.rows heaviest (stars_at n.classes) (stars_at n.classes + n.stars)) (program_of x)
  compiled_fits deep few =
      let r = C.rows in
      let all = form_fits F deep n.rows heaviest (omega arith) few in
      let P : ℕ → ℕ → List Step → Type 0 = λ classes count p. Each (Within n.rows heaviest (stars_at classes) (stars_at classes + count)) p in
      subst (λ c. P c n.stars (program_of x)) (sym C.classes) (subst (λ c. P (class_count F) c (program_of x)) (sym C.stars) (subst (P (class_count F) (stars (written F))) (sym C.program) all))

pub none_are : (sets : List ByteSet) → sets ≡ [] → Are sets []
none_are sets e = subst (λ s. Are s []) (sym e) tt

-- no steps have no numbers
pub none_fits : (P : Step → Type 0) (steps : List Step) → steps ≡ [] → Each P steps
none_fits P steps e = subst (Each P) (sym e) tt
