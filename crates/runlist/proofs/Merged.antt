-- One turn of a merge: from the place p up to q the two bits stay. Assumes nothing.
use Rattle.std.proofs.Common.{◌≡◌, ℕ, zero, suc, ◌+◌, ◌-◌, ◌<◌, ◌≤◌, Bool, true, false, ◌&&◌, ◌||◌, sym, refl, ap, ◌∙◌, arith}
use native.Mathlib.Decide.{dec_lt}
use Rattle.block.specs.Sums.{over}
use Rattle.runlist.specs.Merged.{merged}

-- the carry behind a place with the bits x and y
abbrev pub carry : Bool → Bool → Bool → Bool
carry x y k = (x && y) || ((x || y) && k)

settled : (x y k : Bool) → carry x y (carry x y k) ≡ carry x y k
settled true true k = refl
settled true false true = refl
settled true false false = refl
settled false true true = refl
settled false true false = refl
settled false false k = refl

pub over_none : (f g : ℕ → Bool) (enter : Bool) → enter ≡ over f g enter 0
unfolding over
over_none f g enter = refl

module _ (f g : ℕ → Bool) (enter : Bool) (p q : ℕ) (x y k : Bool)
    (fx : (j : ℕ) → p ≤ j → j < q → f j ≡ x) (gy : (j : ℕ) → p ≤ j → j < q → g j ≡ y) (ek : k ≡ over f g enter p) where
  over_steps : (d : ℕ) → p + d < q → over f g enter (suc (p + d)) ≡ carry x y k
  unfolding over
  over_steps zero h =
      let s : p + 0 ≡ p = omega arith in
      (λ z. carry (fx (p + 0) (omega arith) h z) (gy (p + 0) (omega arith) h z) (over f g enter (s z))) ∙ ap (carry x y) (sym ek)
  over_steps (suc d) h =
      let s : p + suc d ≡ suc (p + d) = omega arith in
      (λ z. carry (fx (p + suc d) (omega arith) h z) (gy (p + suc d) (omega arith) h z) (over f g enter (s z)))
      ∙ ap (carry x y) (over_steps d (omega arith)) ∙ settled x y k

  -- the carry behind the first place, and behind each up to q
  pub run_carry : (i : ℕ) → p < i → i ≤ q → carry x y k ≡ over f g enter i
  run_carry i h l = let s : suc (p + (i - suc p)) ≡ i = omega arith in sym (over_steps (i - suc p) (omega arith)) ∙ ap (over f g enter) s

  -- the bits that stand: old before the turn, mid with the place p, new with the places up to q
  pub run_bits : (op : Bool → Bool → Bool → Bool) (old mid new : ℕ → Bool) (first rest : Bool) → first ≡ op x y k → rest ≡ op x y (carry x y k)
      → ((j : ℕ) → p ≤ j → j < p + 1 → mid j ≡ first) → ((j : ℕ) → j < p → mid j ≡ old j)
      → ((j : ℕ) → p + 1 ≤ j → j < q → new j ≡ rest) → ((j : ℕ) → j < p + 1 → new j ≡ mid j)
      → p < q → ((j : ℕ) → j < p → old j ≡ merged op f g enter j) → (j : ℕ) → j < q → new j ≡ merged op f g enter j
  run_bits op old mid new first rest e r here before next stays lt known j h =
      elim (dec_lt j p) [
        | yes u ↦ stays j (omega arith) ∙ before j u ∙ known j u
        | no u ↦ elim (dec_lt j (p + 1)) [
          | yes v ↦
              let s : p ≡ j = omega arith in
              stays j v ∙ here j (omega arith) v ∙ e
              ∙ (λ z. op (sym (fx j (omega arith) h) z) (sym (gy j (omega arith) h) z) ((ek ∙ ap (over f g enter) s) z))
          | no v ↦
              next j (omega arith) h ∙ r
              ∙ (λ z. op (sym (fx j (omega arith) h) z) (sym (gy j (omega arith) h) z) (run_carry j (omega arith) (omega arith) z))
        ]
      ]
