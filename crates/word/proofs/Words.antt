-- A word with one byte put in another's place, and a word without the places below i. Assumes nothing.
use Rattle.std.proofs.Common.{◌≡◌, ℕ, suc, ◌+◌, ◌-◌, ◌*◌, ◌/◌, ◌%◌, ◌^◌, ◌<◌, ◌≤◌, false, Some, None, sym, ap, ◌∙◌, ap₂, subst, mod-lt, mod-eq_of_lt, pow_mono, add-mul, lt_of_not-le, div-add-mod', arith, pow_pos, pow-add, shl_exact}
use lib.Bits.{bit_and, bit_or, and_block, and_high, and_mask, or_block, or_shifted, or_zero_r}
use lib.Count.{count_trailing_zeros}
use lib.Pow.{shr_lt, shr_mod, split}
use Rattle.std.proofs.lemmas.Nat.Bits.{ones_shl, and_high_mask}
use Rattle.block.specs.Rows.{bit, is_one, row_of}
use Rattle.block.specs.Calls.{First}
use Rattle.block.proofs.Groups.{group}
use Rattle.block.proofs.Numbers.{bit_row, row_none, row_all, row_and, row_or, row_xor, row_not}
use Rattle.block.proofs.Places.{place, trailing_below, trailing_one, trailing_lt, zero_place, place_kept, place_gone}

-- The quotient q by 2 ^ (8 k) is 256 h + the old byte: the mask leaves h and the places below, and the byte goes between.
pub put_word : (x k b : ℕ) → x < 2 ^ 64 → k < 8 → b < 2 ^ 8
    → bit_or (bit_and x (18446744073709551615 - (255 * 2 ^ (8 * k)) % 2 ^ 64)) ((b * 2 ^ (8 * k)) % 2 ^ 64) + group x k * 2 ^ (8 * k) ≡ x + b * 2 ^ (8 * k)
put_word x k b hx hk hb =
    let Q : ℕ = 2 ^ (8 * k) in
    let a : ℕ = 56 - 8 * k in
    let q : ℕ = x / Q in
    let h : ℕ = q / 256 in
    let low : ℕ = x % Q in
    let pos : 0 < Q = pow_pos (8 * k) in
    let small : low < Q = mod-lt x pos in
    let parts : 64 ≡ (a + 8) + 8 * k = omega arith in
    let whole : q * Q + low ≡ x = split x (8 * k) in
    let cut : q * Q ≡ h * 256 * Q + group x k * Q = ap (λ n. n * Q) (sym (div-add-mod' q 256)) ∙ add-mul (h * 256) (group x k) Q in
    let top : 2 ^ 64 ≡ 2 ^ (a + 8) * Q = ap (λ n. 2 ^ n) parts ∙ pow-add 2 (a + 8) (8 * k) in
    let ones : 256 ≤ 2 ^ (a + 8) = pow_mono {i = 8} {j = a + 8} (omega arith) in
    let old : (255 * Q) % 2 ^ 64 ≡ 255 * Q = shl_exact 8 (8 * k) 64 (omega arith) (omega arith) in
    let new : (b * Q) % 2 ^ 64 ≡ b * Q + 0 = shl_exact 8 (8 * k) 64 hb (omega arith) ∙ omega arith in
    let less : (2 ^ (a + 8) - 2 ^ 8 + 256) * Q ≡ (2 ^ (a + 8) - 2 ^ 8) * Q + 256 * Q = add-mul (2 ^ (a + 8) - 2 ^ 8) 256 Q in
    let back : 2 ^ (a + 8) - 2 ^ 8 + 256 ≡ 2 ^ (a + 8) = omega arith in
    let mask : 18446744073709551615 - (255 * Q) % 2 ^ 64 ≡ (2 ^ (a + 8) - 2 ^ 8) * Q + (Q - 1) = omega (arith, old, top, ap (λ n. n * Q) (sym back) ∙ less) in
    let masked : bit_and x (18446744073709551615 - (255 * Q) % 2 ^ 64) ≡ h * 256 * Q + low =
    ap₂ bit_and (sym whole) mask ∙ and_block (8 * k) q (2 ^ (a + 8) - 2 ^ 8) low (Q - 1) small (omega arith)
    ∙ ap₂ (λ m n. m * Q + n) (and_high q a 8 ∙ ap (λ n. n * 256) (shr_mod a 8 (shr_lt (a + 8) (8 * k) (subst (λ n. x < 2 ^ n) parts hx))))
    (and_mask low (8 * k) ∙ mod-eq_of_lt small) in
    let made : bit_or (bit_and x (18446744073709551615 - (255 * Q) % 2 ^ 64)) ((b * Q) % 2 ^ 64) ≡ (h * 256 + b) * Q + low =
    ap₂ bit_or masked new ∙ or_block (8 * k) (h * 256) b low 0 small pos ∙ ap₂ (λ m n. m * Q + n) (or_shifted h 8 b hb) (or_zero_r low) in
    omega (arith, made, whole, cut, add-mul (h * 256) b Q)

pub masked : (x i : ℕ) → x < 2 ^ 64 → i < 64 → bit_and x ((18446744073709551615 * 2 ^ i) % 2 ^ 64) ≡ x / 2 ^ i * 2 ^ i
masked x i hx hi = ap (bit_and x) (ones_shl 64 i (omega arith)) ∙ and_high_mask 64 i (omega arith) x hx

module _ (x i : ℕ) where
  zero_at : (p : ℕ) → p < 64 → place x p ≡ 0 → bit (row_of 64 x) p ≡ false
  zero_at p l e = bit_row 64 x p l ∙ ap is_one e

  pub first_none : x / 2 ^ i * 2 ^ i ≡ 0 → First 64 (row_of 64 x) i None
  first_none e p h l = zero_at p l (sym (place_kept x i p h) ∙ ap (λ n. place n p) e ∙ zero_place p)

  pub first_some : (t : ℕ) → x < 2 ^ 64 → 0 < x / 2 ^ i * 2 ^ i → t ≡ count_trailing_zeros 64 (x / 2 ^ i * 2 ^ i) → First 64 (row_of 64 x) i (Some t)
  first_some t hx pos e =
      let y : ℕ = x / 2 ^ i * 2 ^ i in
      let yx : y ≤ x = omega (arith, split x i) in
      let lt : count_trailing_zeros 64 y < 64 = trailing_lt 64 y pos (omega arith) in
      let one : place y t ≡ 1 = ap (place y) e ∙ trailing_one 64 y lt in
      let past : i < suc t = lt_of_not-le (λ (h : t < i). let z : ◌≡◌ {A = ℕ} 0 1 = sym (place_gone x i t h) ∙ one in omega arith) in
      let from : i ≤ t = omega arith in (
        from,
        omega arith,
        bit_row 64 x t (omega arith) ∙ ap is_one (sym (place_kept x i t from) ∙ one),
        λ p h l. zero_at p (omega arith) (sym (place_kept x i p h) ∙ trailing_below 64 y p (omega arith)),
      )

-- what the logic of numbers is to their rows
pub ruleset row_laws = (row_none, row_all, row_and, row_or, row_xor, row_not)
