-- Steps in order, and passes that end. Assumes nothing.
use Rattle.std.proofs.Common.{◌≡◌, ℕ, zero, suc, ◌+◌, ◌-◌, ◌<◌, ◌≤◌, Bool, true, false, List, [], ◌∷◌, length, get_or, take, sym, refl, ap, ◌∙◌, subst, inl, inr, add-one, arith}
use Rattle.std.proofs.lemmas.Bool.{false≢true}
use Rattle.stream.specs.Tables.{rows}
use Rattle.stream.proofs.Tables.{rows_wide}
use Rattle.program.specs.declared.Step.{Step}
use Rattle.program.specs.Machine.{Machine, does, runs, begun, repeated}
use Rattle.program.specs.Compile.{Within, Each}
use Rattle.program.specs.Falls.{vacant, Fallen}
use Rattle.program.proofs.Falls.{steps_fall}
use Rattle.machine.specs.Holding.{holding}

pub each_at : (P : Step → Type 0) (p : List Step) → Each P p → (i : ℕ) (d : Step) → i < length p → P (get_or p i d)
each_at P [] h i d l = absurd (omega arith)
each_at P (s ∷ p) h zero d l = h.0
each_at P (s ∷ p) h (suc i) d l = each_at P p h.1 i d (omega arith)

module _ (w : ℕ) (ins : ℕ → Bool) where
  runs-take : (p : List Step) (i : ℕ) (d : Step) (x : Machine) → i < length p
      → runs w ins (take (suc i) p) x ≡ does w ins (get_or p i d) (runs w ins (take i p) x)
  runs-take [] i d x l = absurd (omega arith)
  runs-take (s ∷ p) zero d x l = refl
  runs-take (s ∷ p) (suc i) d x l = runs-take p i d (does w ins s x) (omega arith)

  -- one step more of a pass, and all
  pub runs_more : (p : List Step) (i : ℕ) (d : Step) (x y z : Machine) → i < length p → y ≡ runs w ins (take i p) x
      → z ≡ does w ins (get_or p i d) y → z ≡ runs w ins (take (i + 1) p) x
  runs_more p i d x y z l e f =
      f ∙ (ap (does w ins (get_or p i d)) e ∙ (sym (runs-take p i d x l) ∙ ap (λ n. runs w ins (take n p) x) (sym (add-one i))))

  -- one pass more
  pub passes_more : (p : List Step) (m : List Bool) (x y z : Machine) (j : ℕ) → z ≡ runs w ins p (begun m y)
      → runs w ins p (begun m y) ≡ repeated w ins p m x j → runs w ins p (begun m z) ≡ repeated w ins p m x (suc j)
  passes_more p m x y z j e f = ap (λ v. runs w ins p (begun m v)) (e ∙ f)

-- a pass that notes a change leaves fewer zeros in the stars' rows
pub falls : {B : Type 0} (row : B → List Bool) (w : ℕ) → ((b : B) → length (row b) ≡ w) → (ins : ℕ → Bool) (n k : ℕ) (p : List Step)
    (from to : ℕ) → from ≤ to → Each (Within n k from to) p → (blocks : List B) → to ≤ length blocks → (marks : B) (carries : ℕ → Bool)
    (ends : B) (last : List B) (next : ℕ → Bool) (changed : Bool)
    → holding row ends last next changed ≡ runs w ins p (holding row marks blocks carries false) → changed ≡ true
    → vacant (rows row last) from (to - from) < vacant (rows row blocks) from (to - from)
falls row w wide ins n k p from to order fits blocks within marks carries ends last next changed e noted =
    let count : ℕ = to - from in
    let x : Machine = holding row marks blocks carries false in
    let y : Machine = holding row ends last next changed in
    let is : to ≡ from + count = omega arith in
    let A : Fallen w from count x y =
    subst (Fallen w from count x) (sym e)
    (steps_fall w ins n k from count p (subst (λ z. Each (Within n k from z) p) is fits) x (λ i l u. rows_wide row w wide blocks i (omega arith))) in
    elim (A.noted noted) [ inl f ↦ absurd (false≢true f) | inr h ↦ h ]
