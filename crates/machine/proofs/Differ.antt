-- Two rows differ exactly where their xor has a one. Assumes nothing.
use Rattle.std.proofs.Common.{◌≡◌, ℕ, ◌<◌, ◌≤◌, Bool, true, false, not, List, length, is_some, Some, None, Option, sym, refl, ap, ◌∙◌, arith}
use Rattle.std.proofs.lemmas.Bool.{false≢true}
use Rattle.block.specs.Rows.{bit}
use Rattle.block.specs.Calls.{widest, differ, xor_row, First}
use Rattle.block.proofs.Rows.{bit_at, tab_is}
use Rattle.program.specs.Machine.{same}
use Rattle.program.proofs.Falls.{same_refl}
use Rattle.program.proofs.Puts.{same_is}

differ_not : (a b : Bool) → differ a b ≡ false → a ≡ b
differ_not true true e = refl
differ_not true false e = e
differ_not false true e = sym e
differ_not false false e = refl

differ_self : (a : Bool) → differ a a ≡ false
differ_self true = refl
differ_self false = refl

module _ (w : ℕ) (seen : w ≤ widest) (a b x : List Bool) (wa : length a ≡ w) (wb : length b ≡ w) (e : x ≡ xor_row w a b) where
  at : (p : ℕ) → p < w → bit x p ≡ differ (bit a p) (bit b p)
  at = bit_at w x (λ i. differ (bit a i) (bit b i)) e

  -- a one in the xor is a place at which they differ
  apart : (p : ℕ) → p < w → bit x p ≡ true → (s : Bool) → same a b ≡ s → true ≡ not s
  apart p l h true g =
      absurd (false≢true (sym (differ_self (bit b p)) ∙ (sym (ap (λ r. differ (bit r p) (bit b p)) (same_is a b g)) ∙ (sym (at p l) ∙ h))))
  apart p l h false g = refl

  -- where there is none they are one
  one : ((p : ℕ) → p < w → bit x p ≡ false) → a ≡ b
  one h =
      tab_is a w (bit b) wa (λ p l. differ_not (bit a p) (bit b p) (sym (at p l) ∙ h p l))
      ∙ sym (tab_is b w (bit b) wb (λ p l. refl))

  pub differs : (r : Option ℕ) → First w x 0 r → is_some r ≡ not (same a b)
  differs (Some p) h = apart p (omega arith) h.2 (same a b) refl
  differs None h =
      let g : a ≡ b = one (λ p l. h p (omega arith) (omega arith)) in
      ap not (sym (same_refl b) ∙ ap (λ r. same r b) (sym g))
