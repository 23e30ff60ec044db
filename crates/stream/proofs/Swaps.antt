-- The three swaps of `spread`. Assumes nothing.
use Rattle.std.proofs.Common.{◌≡◌, ℕ, ◌+◌, ◌-◌, ◌*◌, ◌/◌, ◌%◌, ◌^◌, ◌<◌, Bool, true, false, cond, not, ◌&&◌, eqb, ltb, leb, sym, refl, ap, ◌∙◌, ap₂, div-add-mod', arith, pow_pos, shr-shr, ltb-true, eqb-true, le-leb, leb-true}
use native.Mathlib.Decide.{dec_lt}
use lib.Bits.{bit_and, bit_xor}
use Rattle.std.proofs.Math.Bool.{and-false, and-true}
use Rattle.std.proofs.lemmas.Bool.{and_parts, lt-leb, agree_below, agree_below_at}
use Rattle.block.specs.Rows.{is_one, bit_of}
use Rattle.block.specs.Calls.{differ}
use Rattle.block.proofs.Places.{place_low, place_high, zero_place}
use Rattle.block.proofs.Numbers.{bit_and_lem, bit_xor_lem}
use Rattle.block.proofs.Rows.{wrong}
use Rattle.stream.specs.Swaps.{apart, swapped}

-- ---- the code of one swap

bit_shr : (x step p : ℕ) → bit_of (x / 2 ^ step) p ≡ bit_of x (step + p)
bit_shr x step p = ap (λ n. is_one (n % 2)) (shr-shr x step p)

bit_shl : (x step p : ℕ) → p < 64 → bit_of ((x * 2 ^ step) % 2 ^ 64) p ≡ (leb step p && bit_of x (p - step))
bit_shl x step p l =
    let y : ℕ = x * 2 ^ step in
    let whole : y / 2 ^ 64 * 2 ^ 64 + y % 2 ^ 64 ≡ y = div-add-mod' y (2 ^ 64) in
    let e : x * 2 ^ step + 0 ≡ y = omega arith in
    ap is_one (sym (place_low 64 p (y / 2 ^ 64) (y % 2 ^ 64) l)) ∙ ap (λ n. bit_of n p) (whole ∙ sym e)
    ∙ elim (dec_lt p step) [
      | yes u ↦ ap is_one (place_low step p x 0 u ∙ zero_place p) ∙ sym (ap (λ t. t && bit_of x (p - step)) (lt-leb step p u))
      | no u ↦ ap is_one (place_high step p x 0 (pow_pos step) (omega arith)) ∙ sym (ap (λ t. t && bit_of x (p - step)) (le-leb step p (omega arith)))
    ]

pub swap_bits : (x step mask : ℕ) → (p : ℕ) → p < 64
    → bit_of (bit_xor (bit_xor x (bit_and (bit_xor x (x / 2 ^ step)) mask)) ((bit_and (bit_xor x (x / 2 ^ step)) mask * 2 ^ step) % 2 ^ 64)) p ≡ swapped mask step (bit_of x) p
swap_bits x step mask p l =
    let m : ℕ = bit_and (bit_xor x (x / 2 ^ step)) mask in
    bit_xor_lem (bit_xor x m) ((m * 2 ^ step) % 2 ^ 64) p
    ∙ ap₂ differ (bit_xor_lem x m p ∙ ap (differ (bit_of x p)) (moved p)) (bit_shl m step p l ∙ ap (λ t. leb step p && t) (moved (p - step)))
  where
    moved : (q : ℕ) → bit_of (bit_and (bit_xor x (x / 2 ^ step)) mask) q ≡ apart mask step (bit_of x) q
    moved q = bit_and_lem (bit_xor x (x / 2 ^ step)) mask q ∙ ap (λ t. t && bit_of mask q) (bit_xor_lem x (x / 2 ^ step) q ∙ ap (differ (bit_of x q)) (bit_shr x step q))

-- ---- where each place comes from

source : ℕ → ℕ → ℕ → ℕ
source mask step p = cond (bit_of mask p) (step + p) (cond (leb step p && bit_of mask (p - step)) (p - step) p)

-- the mask does not have a place and the one `step` places on
clear : ℕ → ℕ → ℕ → Bool
clear mask step p = not (bit_of mask p && (leb step p && bit_of mask (p - step)))

swap_here : (a b : Bool) → differ (differ a (differ a b)) false ≡ b
swap_here true true = refl
swap_here true false = refl
swap_here false true = refl
swap_here false false = refl

swap_none : (a : Bool) → differ (differ a false) false ≡ a
swap_none true = refl
swap_none false = refl

swap_back : (a b : Bool) → differ (differ b false) (differ a b) ≡ a
swap_back true true = refl
swap_back true false = refl
swap_back false true = refl
swap_back false false = refl

module _ (mask step : ℕ) (f : ℕ → Bool) (p : ℕ) where
  cases : (m t n : Bool) → leb step p ≡ t → not (m && (t && n)) ≡ true
      → differ (differ (f p) (differ (f p) (f (step + p)) && m)) (t && (differ (f (p - step)) (f (step + (p - step))) && n)) ≡ f (cond m (step + p) (cond (t && n) (p - step) p))
  cases true true true h e = wrong e
  cases true true false h e = ap₂ (λ x y. differ (differ (f p) x) y) (and-true (differ (f p) (f (step + p)))) (and-false (differ (f (p - step)) (f (step + (p - step))))) ∙ swap_here (f p) (f (step + p))
  cases true false n h e = ap (λ x. differ (differ (f p) x) false) (and-true (differ (f p) (f (step + p)))) ∙ swap_here (f p) (f (step + p))
  cases false true true h e =
      let l = leb-true step p h in
      let q : step + (p - step) ≡ p = omega arith in
      ap₂ (λ x y. differ (differ (f p) x) y) (and-false (differ (f p) (f (step + p)))) (and-true (differ (f (p - step)) (f (step + (p - step)))) ∙ ap (λ n. differ (f (p - step)) (f n)) q)
      ∙ swap_back (f (p - step)) (f p)
  cases false true false h e = ap₂ (λ x y. differ (differ (f p) x) y) (and-false (differ (f p) (f (step + p)))) (and-false (differ (f (p - step)) (f (step + (p - step))))) ∙ swap_none (f p)
  cases false false n h e = ap (λ x. differ (differ (f p) x) false) (and-false (differ (f p) (f (step + p)))) ∙ swap_none (f p)

  swapped_is : clear mask step p ≡ true → swapped mask step f p ≡ f (source mask step p)
  unfolding clear source
  swapped_is e = cases (bit_of mask p) (leb step p) (bit_of mask (p - step)) refl e

-- ---- the three together, tested at each of the 64 places

-- the place that a place of the second swap, and of the last, comes from
second : ℕ → ℕ
second p = source 0x0000_cccc_0000_cccc 14 p

third : ℕ → ℕ
third p = source 0x0000_0000_f0f0_f0f0 28 p

test : ℕ → Bool
test p =
    (clear 0x0000_0000_f0f0_f0f0 28 p && ltb (third p) 64)
    && ((clear 0x0000_cccc_0000_cccc 14 (third p) && ltb (second (third p)) 64)
    && (clear 0x00aa_00aa_00aa_00aa 7 (second (third p)) && eqb (source 0x00aa_00aa_00aa_00aa 7 (second (third p))) (8 * (p % 8) + p / 8)))

all_tested : agree_below test (λ _. true) 64 ≡ true
unfolding test second third clear source
all_tested = refl

module _ (x pairs fours r : ℕ → Bool)
    (ep : (p : ℕ) → p < 64 → pairs p ≡ swapped 0x00aa_00aa_00aa_00aa 7 x p)
    (ef : (p : ℕ) → p < 64 → fours p ≡ swapped 0x0000_cccc_0000_cccc 14 pairs p)
    (er : (p : ℕ) → p < 64 → r p ≡ swapped 0x0000_0000_f0f0_f0f0 28 fours p) where
  at : (p : ℕ) → p < 64 → test p ≡ true → r p ≡ x (8 * (p % 8) + p / 8)
  unfolding test second third
  at p l e =
      let a = and_parts _ _ e in
      let b = and_parts _ _ a.0 in
      let c = and_parts _ _ a.1 in
      let d = and_parts _ _ c.0 in
      let f = and_parts _ _ c.1 in
      er p l ∙ swapped_is 0x0000_0000_f0f0_f0f0 28 fours p b.0
      ∙ ef (third p) (ltb-true (third p) 64 b.1) ∙ swapped_is 0x0000_cccc_0000_cccc 14 pairs (third p) d.0
      ∙ ep (second (third p)) (ltb-true (second (third p)) 64 d.1) ∙ swapped_is 0x00aa_00aa_00aa_00aa 7 x (second (third p)) f.0
      ∙ ap x (eqb-true _ _ f.1)

  pub spread_bits : (j n : ℕ) → j < 8 → n < 8 → r (8 * j + n) ≡ x (8 * n + j)
  spread_bits j n hj hn =
      let l : 8 * j + n < 64 = omega arith in
      let e : 8 * ((8 * j + n) % 8) + (8 * j + n) / 8 ≡ 8 * n + j = omega arith in
      at (8 * j + n) l (agree_below_at test (λ _. true) 64 (8 * j + n) all_tested l) ∙ ap x e
