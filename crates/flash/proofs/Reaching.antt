-- Runs of lit samples by MatchStar. Assumes nothing.
use Rattle.std.proofs.Common.{◌≡◌, ℕ, zero, suc, ◌^◌, ◌<◌, ◌≤◌, Bool, true, false, not, ◌&&◌, ◌||◌, eqb, List, length, get_or, sym, refl, ap, ◌∙◌, subst, ap₂, inl, inr, arith}
use native.Mathlib.Decide.{dec_lt}
use Rattle.std.specs.Cmp.Derive.{one_truth}
use Rattle.std.proofs.Math.Bool.{or-false, and-false}
use Rattle.std.proofs.lemmas.List.{get_or_past}
use Rattle.block.specs.Rows.{bit, tab}
use Rattle.block.specs.Calls.{and_row, not_row, enters}
use Rattle.block.proofs.Rows.{wrong, bit_at, bit_past, enters_ext}
use Rattle.stream.specs.MatchStar.{Reached, Star}
use Rattle.stream.specs.Sets.{has}
use Rattle.stream.specs.Tables.{rows, held, Transposed}
use Rattle.stream.specs.declared.set.ByteSet.{ByteSet}
use Rattle.stream.proofs.Backs.{held_basis}
use Rattle.flash.specs.Flashes.{lit_byte, lit}
use Rattle.flash.specs.Marks.{before}

-- the class of one byte value
pub class_bit : {B : Type 0} (row : B → List Bool) (w : ℕ) (bytes : List ℕ) (old table : List B) → Transposed row w bytes old table → ((i : ℕ) → get_or bytes i 0 < 2 ^ 8)
    → (empty one : ByteSet) (x : ℕ) → ((v : ℕ) → v < 256 → has empty v ≡ false) → ((v : ℕ) → v < 256 → has one v ≡ (eqb v x || has empty v))
    → (r : B) → row r ≡ tab w (λ i. has one (held (rows row table) i)) → (i : ℕ) → i < w → bit (row r) i ≡ eqb (get_or bytes i 0) x
class_bit row w bytes old table t byte empty one x none with r e i l =
    let v : ℕ = get_or bytes i 0 in
    bit_at w (row r) _ e i l ∙ ap (has one) (held_basis w bytes (rows row table) t.first i l (byte i)) ∙ with v (byte i)
    ∙ ap (λ y. eqb v x || y) (none v (byte i)) ∙ or-false (eqb v x)

-- from each place of a row through the row, and from the carry
module _ (w : ℕ) (samples : List Bool) (carry : Bool) (reached : List Bool) (out : Bool) (wide : length samples ≡ w) (star : Star w samples samples carry reached out) where
  from_reached : (p : ℕ) → bit samples p ≡ false → Reached samples samples carry p → enters carry (bit samples) p ≡ true
  from_reached zero dark (inl (s, l, m, t)) = let e : s ≡ 0 = omega arith in wrong (sym dark ∙ subst (λ q. bit samples q ≡ true) e m)
  from_reached zero dark (inr (k, t)) = k
  from_reached (suc p) dark (inl (s, l, m, t)) =
      elim (dec_lt s (suc p)) [
        | yes u ↦ t p (omega arith) (omega arith)
        | no u ↦ let e : s ≡ suc p = omega arith in wrong (sym dark ∙ subst (λ q. bit samples q ≡ true) e m)
      ]
  from_reached (suc p) dark (inr (k, t)) = t p (omega arith) (omega arith)

  to_reached : (p : ℕ) → enters carry (bit samples) p ≡ true → Reached samples samples carry p
  to_reached zero k = inr (k, λ q f u. absurd (omega arith))
  to_reached (suc p) e = inl (p, omega arith, e, λ q f u. let same : p ≡ q = omega arith in subst (λ x. bit samples x ≡ true) same e)

  behind_dark : (p : ℕ) → p < w → bit samples p ≡ false → bit reached p ≡ enters carry (bit samples) p
  behind_dark p l dark =
      one_truth (bit reached p) (enters carry (bit samples) p) (λ e. from_reached p dark ((star.within p l).0 e)) (λ e. (star.within p l).1 (to_reached p e))

  -- the samples of some bytes
  module _ (bytes : List ℕ) (is : (i : ℕ) → i < w → bit samples i ≡ lit bytes i) where
    same_before : (p : ℕ) → p ≤ w → enters carry (bit samples) p ≡ before carry bytes p
    same_before p l = enters_ext carry (bit samples) (lit bytes) p (λ j u. is j (omega arith))

    pub complete_bit : (turned r : List Bool) → turned ≡ not_row w samples → r ≡ and_row w reached turned → (p : ℕ) → p < w
        → bit r p ≡ (before carry bytes p && not (lit bytes p))
    complete_bit turned r et er p l =
        bit_at w r _ er p l ∙ ap (λ x. bit reached p && x) (bit_at w turned _ et p l) ∙ go (bit samples p) refl
        ∙ ap₂ (λ x y. x && not y) (same_before p (omega arith)) (is p l)
      where
        go : (s : Bool) → bit samples p ≡ s → (bit reached p && not s) ≡ (enters carry (bit samples) p && not s)
        go true e = and-false (bit reached p) ∙ sym (and-false (enters carry (bit samples) p))
        go false e = ap (λ x. x && true) (behind_dark p l e)

    dark_end : (n : ℕ) → n ≡ length bytes → lit bytes n ≡ false
    dark_end n e = ap (λ v. eqb v lit_byte) (get_or_past bytes n 0 (omega arith))

    -- the carry out of a block that the bytes do not fill, and of one that they do
    pub lit_within : (n : ℕ) → n ≡ length bytes → n < w → bit reached n ≡ before carry bytes n
    lit_within n e l = behind_dark n l (is n l ∙ dark_end n e) ∙ same_before n (omega arith)

    pub lit_behind : out ≡ before carry bytes w
    lit_behind =
        one_truth out (enters carry (bit samples) w) (λ e. from_reached w (bit_past samples w (omega arith)) (star.behind.0 e)) (λ e. star.behind.1 (to_reached w e))
        ∙ same_before w (omega arith)
