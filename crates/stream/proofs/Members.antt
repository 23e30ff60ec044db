-- One value more in a set. Assumes nothing.
use Rattle.std.proofs.Common.{◌≡◌, ℕ, ◌+◌, ◌-◌, ◌*◌, ◌%◌, ◌^◌, ◌<◌, ◌≤◌, Bool, true, false, cond, ◌||◌, eqb, ltb, sym, refl, ap, ◌∙◌, one-mul, arith, pow_pos, shl_exact, ltb-false, ltb-true, eq-eqb, ne_eqb}
use mathlib.Core.Bool.{or_comm}
use native.Mathlib.Decide.{dec_lt}
use lib.Bits.{bit_or}
use Rattle.std.proofs.lemmas.Bool.Decides.{nat_tests}
use Rattle.block.specs.Rows.{is_one, bit_of}
use Rattle.block.proofs.Places.{place_low, place_high, place_past, zero_place}
use Rattle.block.proofs.Numbers.{bit_or_lem}

-- a power of two has one bit
pub bit_power : (b v : ℕ) → bit_of (2 ^ b) v ≡ eqb v b
bit_power b v =
    let e : 1 * 2 ^ b + 0 ≡ 2 ^ b = omega arith in
    elim (dec_lt v b) [
      | yes l ↦ ap (λ n. bit_of n v) (sym e) ∙ ap is_one (place_low b v 1 0 l ∙ zero_place v) ∙ sym (ne_eqb v b (λ q. omega arith))
      | no l ↦
          ap (λ n. bit_of n v) (sym e) ∙ ap is_one (place_high b v 1 0 (pow_pos b) (omega arith))
          ∙ elim (dec_lt b v) [
            | yes u ↦ ap is_one (place_past 1 1 (v - b) (omega arith) (omega arith)) ∙ sym (ne_eqb v b (λ q. omega arith))
            | no u ↦ let z : v - b ≡ 0 = omega arith in ap (bit_of 1) z ∙ sym (eq-eqb v b (omega arith))
          ]
    ]

pub bit_with : (s b v : ℕ) → b < 128 → bit_of (bit_or s ((1 * 2 ^ b) % 2 ^ 128)) v ≡ (eqb v b || bit_of s v)
bit_with s b v l =
    let e : (1 * 2 ^ b) % 2 ^ 128 ≡ 2 ^ b = shl_exact 1 b 128 (omega arith) (omega arith) ∙ one-mul (2 ^ b) in
    bit_or_lem s ((1 * 2 ^ b) % 2 ^ 128) v ∙ ap (λ n. bit_of s v || bit_of n v) e ∙ ap (λ x. bit_of s v || x) (bit_power b v) ∙ or_comm (bit_of s v) (eqb v b)

module _ (low high byte : ℕ) where
  pub with_low : byte < 128 → (v : ℕ) → cond (ltb v 128) (bit_of (bit_or low ((1 * 2 ^ byte) % 2 ^ 128)) v) (bit_of high (v - 128)) ≡ (eqb v byte || cond (ltb v 128) (bit_of low v) (bit_of high (v - 128)))
  with_low l v = go (ltb v 128) refl
    where
      go : (t : Bool) → ltb v 128 ≡ t → cond t (bit_of (bit_or low ((1 * 2 ^ byte) % 2 ^ 128)) v) (bit_of high (v - 128)) ≡ (eqb v byte || cond t (bit_of low v) (bit_of high (v - 128)))
      go true e = bit_with low byte v l
      go false e = let h = ltb-false v 128 e in sym (ap (λ x. x || bit_of high (v - 128)) (ne_eqb v byte (λ q. omega arith)))

  pub with_high : 128 ≤ byte → byte < 256 → (v : ℕ) → cond (ltb v 128) (bit_of low v) (bit_of (bit_or high ((1 * 2 ^ (byte - 128)) % 2 ^ 128)) (v - 128)) ≡ (eqb v byte || cond (ltb v 128) (bit_of low v) (bit_of high (v - 128)))
  with_high g l v = go (ltb v 128) refl
    where
      go : (t : Bool) → ltb v 128 ≡ t → cond t (bit_of low v) (bit_of (bit_or high ((1 * 2 ^ (byte - 128)) % 2 ^ 128)) (v - 128)) ≡ (eqb v byte || cond t (bit_of low v) (bit_of high (v - 128)))
      go true e = let h = ltb-true v 128 e in sym (ap (λ x. x || bit_of low v) (ne_eqb v byte (λ q. omega arith)))
      go false e =
          let h = ltb-false v 128 e in
          let down : eqb (v - 128) (byte - 128) ≡ eqb v byte = grind (arith, nat_tests) in
          bit_with high (byte - 128) (v - 128) (omega arith) ∙ ap (λ x. x || bit_of high (v - 128)) down
