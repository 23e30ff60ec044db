-- The program of a whole form. Assumes nothing.
use Rattle.std.proofs.Common.{◌≡◌, ℕ, ◌+◌, ◌≤◌, false, [], length, None, refl, ap, subst, arith}
use Rattle.form.specs.Form.{Form, weight}
use Rattle.limits.specs.Limits.{heaviest}
use Rattle.theory.specs.Pattern.{Pattern}
use Rattle.theory.specs.Passes.{stars}
use Rattle.theory.specs.Written.{classes, written, stretch}
use Rattle.program.specs.Numbered.{leaves}
use Rattle.program.specs.Compile.{stars_at, steps, unions}
use Rattle.program.specs.Sizes.{class_count}
use Rattle.program.proofs.Sizes.{form_rows_lem}
use Rattle.emit.specs.Coding.{steps_of, Went, Writes}
use Rattle.emit.specs.Walking.{Walks}
use Rattle.emit.specs.declared.code.Code.{Code}
use Rattle.emit.specs.declared.place.Place.{Place}
use Rattle.emit.proofs.Joining.{writes_at}
use Rattle.emit.proofs.Walked.{stretch_none}
use Rattle.emit.proofs.Bounded.{small, steps_long, leaves_few}

-- a walk over the whole form, with stars' rows from the first behind its classes on
pub whole : (F : Form) (r a : ℕ) (place : Place) (x y : Code) → weight F ≤ heaviest → place ≡ record { first = false; last = false; into = None; depth = 0 }
    → steps_of x ≡ [] → x.carry ≡ 0 → x.star ≡ stars_at (class_count F) → x.gather ≡ a → a ≤ stars_at (class_count F) + stars (written F)
    → Walks 0 (length (classes F)) r place (written F) x y
    → Went x y (steps (written F) 0 (stars_at (class_count F)) a 0) (leaves (written F)) (stars (written F)) (unions (written F))
whole F r a place x y light ps none k0 s0 a0 low w =
    let P : Pattern = written F in
    let n : ℕ = stars_at (class_count F) in
    let rows = form_rows_lem F in
    let l = steps_long P 0 n a 0 in
    let b = (small F 0).0 in
    let f = leaves_few P in
    let e = ap length none in
    let v : Writes None 0 (stretch false false P) x y = subst (λ s. Writes s.into s.depth (stretch s.first s.last P) x y) ps (w (omega arith)).1 in
    let u : Writes None 0 P x y = subst (λ Q. Writes None 0 Q x y) (stretch_none false P) v in
    writes_at None 0 0 P x y 0 n a u refl k0 s0 a0 (omega arith) (omega arith) (omega arith) (omega arith) (omega arith)
