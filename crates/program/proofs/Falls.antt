-- A pass that notes a change has fewer zeros left in the stars' rows. Assumes nothing.
use Rattle.std.proofs.Common.{◌≡◌, ℕ, zero, suc, ◌+◌, ◌*◌, ◌<◌, ◌≤◌, Bool, true, false, not, ◌||◌, ◌⊎◌, List, [], ◌∷◌, length, sym, refl, ap, ◌∙◌, subst, inl, inr, arith}
use native.Mathlib.Decide.{ℕ_discrete, dec_le, dec_lt}
use Rattle.std.proofs.lemmas.Bool.{false≢true}
use Rattle.block.specs.Calls.{none_row, or_row}
use Rattle.block.specs.Rows.{bit}
use Rattle.block.proofs.Rows.{length-tab}
use Rattle.theory.specs.Pattern.{Pattern}
use Rattle.theory.specs.Passes.{zeros, stars}
use Rattle.theory.proofs.Passes.{grow_row, zeros_blank}
use Rattle.program.specs.declared.Step.{Step}
use Rattle.program.specs.declared.Step.TheVariants.{Take, Run, More, Keep, Save, Load, Or, Grow}
use Rattle.program.specs.Machine.{Machine, put, same, does, runs, begun, repeated}
use Rattle.program.specs.Numbered.{leaves, Classed}
use Rattle.program.specs.Compile.{feeds_at, depth, program, stars_at, rows_for, Within}
use Rattle.program.specs.Falls.{vacant, Wide, Fallen, StepsFall, ProgramEnds}
use Rattle.program.proofs.Fitting.{program_fits}
use Rattle.program.proofs.Puts.{put_same, put_other}

vacant_same : (f g : ℕ → List Bool) (s count : ℕ) → ((i : ℕ) → s ≤ i → i < s + count → f i ≡ g i) → vacant f s count ≡ vacant g s count
vacant_same f g s zero h = refl
vacant_same f g s (suc count) h =
    let a : zeros (f s) ≡ zeros (g s) = ap zeros (h s (omega arith) (omega arith)) in
    let c : vacant f (suc s) count ≡ vacant g (suc s) count =
    vacant_same f g (suc s) count (λ i l u. h i (omega arith) (omega arith)) in
    omega arith

-- one of the rows changed
vacant_put : (f : ℕ → List Bool) (r : ℕ) (v : List Bool) (s count : ℕ) → s ≤ r → r < s + count
    → vacant (put f r v) s count + zeros (f r) ≡ vacant f s count + zeros v
vacant_put f r v s zero l u = absurd (omega arith)
vacant_put f r v s (suc count) l u = go (ℕ_discrete s r) (vacant_put f r v (suc s) count)
  where
    go : Dec (s ≡ r) → (suc s ≤ r → r < suc s + count → vacant (put f r v) (suc s) count + zeros (f r) ≡ vacant f (suc s) count + zeros v)
        → vacant (put f r v) s (suc count) + zeros (f r) ≡ vacant f s (suc count) + zeros v
    go (yes e) ih =
        let a : zeros (put f r v s) ≡ zeros v = ap zeros (ap (put f r v) e ∙ put_same f r v) in
        let c : vacant (put f r v) (suc s) count ≡ vacant f (suc s) count =
        vacant_same (put f r v) f (suc s) count (λ i h g. put_other f r v i (λ k. omega arith)) in
        let d : zeros (f s) ≡ zeros (f r) = ap (λ i. zeros (f i)) e in
        omega arith
    go (no e) ih =
        let a : zeros (put f r v s) ≡ zeros (f s) = ap zeros (put_other f r v s e) in
        let ne : (s ≡ r) → ⊥ = e in
        let c = ih (omega arith) (omega arith) in
        omega arith

pub same_refl : (x : List Bool) → same x x ≡ true
unfolding same
same_refl [] = refl
same_refl (true ∷ x) = same_refl x
same_refl (false ∷ x) = same_refl x

or_none : (b : Bool) → (b || false) ≡ b
or_none true = refl
or_none false = refl

module _ (w s count : ℕ) where
  -- a step that leaves these rows and the note
  left : (x y : Machine) → Wide w x.rows s count → ((i : ℕ) → s ≤ i → i < s + count → y.rows i ≡ x.rows i) → y.changed ≡ x.changed
      → Fallen w s count x y
  left x y W h e =
      let v : vacant y.rows s count ≡ vacant x.rows s count = vacant_same y.rows x.rows s count h in
      record { wide = λ i l u. ap length (h i l u) ∙ W i l u; room = omega arith; noted = λ g. inl (sym e ∙ g) }

  put_left : (f : ℕ → List Bool) (r : ℕ) (v : List Bool) → (s ≤ r → r < s + count → ⊥) → (i : ℕ) → s ≤ i → i < s + count → put f r v i ≡ f i
  put_left f r v h i l u = put_other f r v i (λ e. h (omega arith) (omega arith))

  -- marks added to one of the rows
  module _ (x : Machine) (r : ℕ) (l : s ≤ r) (u : r < s + count) (W : Wide w x.rows s count) where
    abbrev v : List Bool
    v = or_row w (x.rows r) x.marks

    added_wide : Wide w (put x.rows r v) s count
    added_wide i h g = at (ℕ_discrete i r)
      where
        at : Dec (i ≡ r) → length (put x.rows r (or_row w (x.rows r) x.marks) i) ≡ w
        at (yes e) =
            ap (λ j. length (put x.rows r (or_row w (x.rows r) x.marks) j)) e
            ∙ (ap length (put_same x.rows r (or_row w (x.rows r) x.marks)) ∙ length-tab w (λ j. bit (x.rows r) j || bit x.marks j))
        at (no e) = ap length (put_other x.rows r (or_row w (x.rows r) x.marks) i e) ∙ W i h g

    moved : vacant (put x.rows r v) s count + zeros (x.rows r) ≡ vacant x.rows s count + zeros v
    moved = vacant_put x.rows r v s count l u

    cases : (v ≡ x.rows r) ⊎ (zeros v < zeros (x.rows r))
    cases = grow_row w (x.rows r) x.marks (W r l u)

    fewer : vacant (put x.rows r v) s count ≤ vacant x.rows s count
    fewer = elim cases [ inl e ↦ omega (arith, moved, ap zeros e) | inr e ↦ omega (arith, moved) ]

    added : (ins : ℕ → Bool) → Fallen w s count x (does w ins (Or r) x)
    added ins = record { wide = added_wide; room = fewer; noted = λ g. inl g }

    grown : (ins : ℕ → Bool) → Fallen w s count x (does w ins (Grow r) x)
    grown ins = record { wide = added_wide; room = fewer; noted = go cases }
      where
        go : (or_row w (x.rows r) x.marks ≡ x.rows r) ⊎ (zeros (or_row w (x.rows r) x.marks) < zeros (x.rows r))
            → (does w ins (Grow r) x).changed ≡ true
            → (x.changed ≡ true) ⊎ (vacant (put x.rows r (or_row w (x.rows r) x.marks)) s count < vacant x.rows s count)
        go (inl e) g =
            let f : same (or_row w (x.rows r) x.marks) (x.rows r) ≡ true =
            ap (λ a. same a (x.rows r)) e ∙ same_refl (x.rows r) in
            inl (sym (ap (λ a. x.changed || not a) f ∙ or_none x.changed) ∙ g)
        go (inr e) g = inr (omega (arith, moved))

  or_fall : (ins : ℕ → Bool) (r : ℕ) (x : Machine) → Wide w x.rows s count → Dec (s ≤ r) → Dec (r < s + count)
      → Fallen w s count x (does w ins (Or r) x)
  or_fall ins r x W (yes l) (yes u) = added x r l u W ins
  or_fall ins r x W (yes l) (no u) = left x _ W (put_left x.rows r (or_row w (x.rows r) x.marks) (λ h g. u g)) refl
  or_fall ins r x W (no l) d = left x _ W (put_left x.rows r (or_row w (x.rows r) x.marks) (λ h g. l h)) refl

  step_fall : (ins : ℕ → Bool) (n k : ℕ) (p : Step) → Within n k s (s + count) p → (x : Machine) → Wide w x.rows s count
      → Fallen w s count x (does w ins p x)
  step_fall ins n k (Take c j) h x W = left x _ W (λ i l u. refl) refl
  step_fall ins n k (Run c j) h x W = left x _ W (λ i l u. refl) refl
  step_fall ins n k (More c j) h x W = left x _ W (λ i l u. refl) refl
  step_fall ins n k (Keep r) h x W = left x _ W (λ i l u. refl) refl
  step_fall ins n k (Save r) h x W = left x _ W (put_left x.rows r x.marks h.1) refl
  step_fall ins n k (Load r) h x W = left x _ W (λ i l u. refl) refl
  step_fall ins n k (Or r) h x W = or_fall ins r x W (dec_le s r) (dec_lt r (s + count))
  step_fall ins n k (Grow r) h x W = grown x r h.1 h.2 W ins

  joined : (x y z : Machine) → Fallen w s count x y → Fallen w s count y z → Fallen w s count x z
  joined x y z A B =
      record {
        wide = B.wide;
        room = omega (arith, A.room, B.room);
        noted = λ e. first (B.noted e);
      }
    where
      first : (y.changed ≡ true) ⊎ (vacant z.rows s count < vacant y.rows s count)
          → (x.changed ≡ true) ⊎ (vacant z.rows s count < vacant x.rows s count)
      first (inl e) = elim (A.noted e) [ inl g ↦ inl g | inr g ↦ inr (omega (arith, B.room)) ]
      first (inr e) = inr (omega (arith, A.room))

pub steps_fall : StepsFall
steps_fall w ins n k s count [] h x W = left w s count x x W (λ i l u. refl) refl
steps_fall w ins n k s count (p ∷ steps) h x W =
    let A = step_fall w s count ins n k p h.0 x W in
    joined w s count x (does w ins p x) (runs w ins steps (does w ins p x)) A
    (steps_fall w ins n k s count steps h.1 (does w ins p x) A.wide)

vacant_none : (w : ℕ) (f : ℕ → List Bool) (s count : ℕ) → ((i : ℕ) → s ≤ i → i < s + count → f i ≡ none_row w) → vacant f s count ≡ count * w
vacant_none w f s zero h = omega arith
vacant_none w f s (suc count) h =
    let a : zeros (f s) ≡ w = ap zeros (h s (omega arith) (omega arith)) ∙ zeros_blank w in
    let c : vacant f (suc s) count ≡ count * w = vacant_none w f (suc s) count (λ i l u. h i (omega arith) (omega arith)) in
    omega arith

module _ (w n : ℕ) (F : Pattern) (classed : Classed n F) (dp : depth F ≤ feeds_at) (ins : ℕ → Bool) (m : List Bool) (x : Machine) where
  abbrev y : ℕ → Machine
  y j = repeated w ins (program n F) m x j

  abbrev room : (ℕ → List Bool) → ℕ
  room f = vacant f (stars_at n) (stars F)

  one : (z : Machine) → Wide w z.rows (stars_at n) (stars F) → Fallen w (stars_at n) (stars F) (begun m z) (runs w ins (program n F) (begun m z))
  one z W = steps_fall w ins (rows_for n F) (leaves F) (stars_at n) (stars F) (program n F) (program_fits n F classed dp) (begun m z) W

  -- the pass j begins with the rows of z: it notes no change, or leaves less room
  abbrev Next : ℕ → Machine → Type 0
  Next j z = ((y j).changed ≡ false) ⊎ ((room (y j).rows < room z.rows) × Wide w (y j).rows (stars_at n) (stars F))

  next : (j : ℕ) (z : Machine) → y j ≡ runs w ins (program n F) (begun m z) → Wide w z.rows (stars_at n) (stars F) → Next j z
  next j z e W = go (y j).changed refl
    where
      A : Fallen w (stars_at n) (stars F) (begun m z) (y j)
      A = subst (Fallen w (stars_at n) (stars F) (begun m z)) (sym e) (one z W)

      go : (b : Bool) → (y j).changed ≡ b → ((y j).changed ≡ false) ⊎ ((room (y j).rows < room z.rows) × Wide w (y j).rows (stars_at n) (stars F))
      go false g = inl g
      go true g = elim (A.noted g) [ inl k ↦ absurd (false≢true k) | inr k ↦ inr (k, A.wide) ]

  within : (d j : ℕ) (z : Machine) → y j ≡ runs w ins (program n F) (begun m z) → Wide w z.rows (stars_at n) (stars F) → room z.rows ≤ d
      → (i : ℕ) × (i ≤ j + d) × ((y i).changed ≡ false)
  within zero j z e W l = elim (next j z e W) [ inl g ↦ (j, omega arith, g) | inr h ↦ absurd (omega arith) ]
  within (suc d) j z e W l =
      elim (next j z e W) [
        | inl g ↦ (j, omega arith, g)
        | inr h ↦ let r = within d (suc j) (y j) refl h.1 (omega arith) in (r.0, omega arith, r.2)
      ]

pub program_ends : ProgramEnds
program_ends w n F classed dp ins m x Z =
    let v : vacant x.rows (stars_at n) (stars F) ≡ stars F * w = vacant_none w x.rows (stars_at n) (stars F) Z in
    let W : Wide w x.rows (stars_at n) (stars F) = λ i l u. ap length (Z i l u) ∙ length-tab w (λ j. false) in
    let y = within w n F classed dp ins m x (stars F * w) 0 x refl W (omega arith) in
    (y.0, omega arith, y.2)
