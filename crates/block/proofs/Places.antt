-- The places of a number: of two numbers side by side, of masks, and of trailing zeros. Assumes nothing.
use Rattle.std.proofs.Common.{◌≡◌, ℕ, zero, suc, ◌+◌, ◌-◌, ◌*◌, ◌/◌, ◌%◌, ◌^◌, ◌<◌, ◌≤◌, min, max, sym, refl, ap, ◌∙◌, add-zero, mod-lt, mul_assoc, pow-suc, arith, pow_pos, pow-add, shr-shr}
use native.Mathlib.Nat.{mul-add-mod_self_right, zero-div}
use lib.Bits.{bit_and, bit_or, bit_xor, and_step, or_step, xor_add_and, and_shr, or_shr, xor_shr}
use lib.Count.{count_trailing_zeros, under}
use lib.Pow.{high, split, field}

-- the digit at place i
abbrev pub place : ℕ → ℕ → ℕ
place n i = n / 2 ^ i % 2

-- the places s to s + j - 1 of hi and lo side by side, at w: in lo, or in hi
pub field_low : (w s j hi lo : ℕ) → s + j ≤ w → (hi * 2 ^ w + lo) / 2 ^ s % 2 ^ j ≡ lo / 2 ^ s % 2 ^ j
field_low w s j hi lo h =
    let d : ℕ = w - (j + s) in
    let parts : w ≡ d + (j + s) = omega arith in
    let cut : hi * 2 ^ w ≡ (hi * 2 ^ d) * 2 ^ (j + s) = ap (λ n. hi * 2 ^ n) parts ∙ ap (λ n. hi * n) (pow-add 2 d (j + s)) ∙ sym (mul_assoc hi (2 ^ d) (2 ^ (j + s))) in
    sym (field (hi * 2 ^ w + lo) j s) ∙ ap (λ n. (n + lo) % 2 ^ (j + s) / 2 ^ s) cut
    ∙ ap (λ n. n / 2 ^ s) (mul-add-mod_self_right (hi * 2 ^ d) (2 ^ (j + s)) lo) ∙ field lo j s

pub field_high : (w s j hi lo : ℕ) → lo < 2 ^ w → w ≤ s → (hi * 2 ^ w + lo) / 2 ^ s % 2 ^ j ≡ hi / 2 ^ (s - w) % 2 ^ j
field_high w s j hi lo b h =
    let parts : w + (s - w) ≡ s = omega arith in
    ap (λ n. (hi * 2 ^ w + lo) / 2 ^ n % 2 ^ j) (sym parts) ∙ ap (λ n. n % 2 ^ j) (sym (shr-shr (hi * 2 ^ w + lo) w (s - w)))
    ∙ ap (λ n. n / 2 ^ (s - w) % 2 ^ j) (high hi w b)

pub place_low : (w i hi lo : ℕ) → i < w → place (hi * 2 ^ w + lo) i ≡ place lo i
place_low w i hi lo h = field_low w i 1 hi lo (omega arith)

pub place_high : (w i hi lo : ℕ) → lo < 2 ^ w → w ≤ i → place (hi * 2 ^ w + lo) i ≡ place hi (i - w)
place_high w i hi lo = field_high w i 1 hi lo

-- the places of the three operations
pub place_and : (a b i : ℕ) → place (bit_and a b) i ≡ min (place a i) (place b i)
place_and a b i = ap (λ n. n % 2) (and_shr a b i) ∙ omega (arith, and_step (a / 2 ^ i) (b / 2 ^ i))

pub place_or : (a b i : ℕ) → place (bit_or a b) i ≡ max (place a i) (place b i)
place_or a b i = ap (λ n. n % 2) (or_shr a b i) ∙ omega (arith, or_step (a / 2 ^ i) (b / 2 ^ i))

-- the places of a number and of its half
pub place_zero : (n : ℕ) → place n 0 ≡ n % 2
place_zero n = ap (λ m. m % 2) (omega arith)

pub place_suc : (n i : ℕ) → place n (suc i) ≡ place (n / 2) i
place_suc n i = ap (λ k. n / 2 ^ k % 2) (omega arith) ∙ ap (λ m. m % 2) (sym (shr-shr n 1 i))

pub zero_place : (p : ℕ) → place 0 p ≡ 0
zero_place p = ap (λ n. n % 2) (zero-div (2 ^ p))

pub place_xor : (a b i : ℕ) → place (bit_xor a b) i ≡ (place a i + place b i) % 2
place_xor a b i = ap (λ n. n % 2) (xor_shr a b i) ∙ omega (arith, xor_add_and (a / 2 ^ i) (b / 2 ^ i))

pub place_le : (n i : ℕ) → place n i < 2
place_le n i = mod-lt (n / 2 ^ i) (pow_pos 1)

pub place_past : (w n i : ℕ) → n < 2 ^ w → w ≤ i → place n i ≡ 0
place_past w n i h l =
    let e : 0 * 2 ^ w + n ≡ n = omega arith in ap (λ m. place m i) (sym e) ∙ place_high w i 0 n h l ∙ zero_place (i - w)

pub place_ones : (w i : ℕ) → i < w → place (2 ^ w - 1) i ≡ 1
place_ones zero i h = absurd (omega arith)
place_ones (suc w) zero h =
    let twice : 2 ^ suc w ≡ 2 ^ w * 2 = pow-suc 2 w in
    let p = pow_pos w in place_zero (2 ^ suc w - 1) ∙ omega arith
place_ones (suc w) (suc i) h =
    let twice : 2 ^ suc w ≡ 2 ^ w * 2 = pow-suc 2 w in
    let p = pow_pos w in
    let e : (2 ^ suc w - 1) / 2 ≡ 2 ^ w - 1 = omega arith in
    place_suc (2 ^ suc w - 1) i ∙ ap (λ n. place n i) e ∙ place_ones w i (omega arith)

-- trailing zeros: below them nothing, and then a one
pub trailing_below : (k n p : ℕ) → p < count_trailing_zeros k n → place n p ≡ 0
unfolding count_trailing_zeros
trailing_below zero n p h = omega arith
trailing_below (suc k) n p h = go (trailing_below k (n / 2)) (n % 2) refl p h
  where
    go : ((q : ℕ) → q < count_trailing_zeros k (n / 2) → place (n / 2) q ≡ 0) → (d : ℕ) → n % 2 ≡ d → (p : ℕ) → p < under d (count_trailing_zeros k (n / 2)) → place n p ≡ 0
    go rest zero e zero h = place_zero n ∙ e
    go rest zero e (suc p) h = place_suc n p ∙ rest p (omega arith)
    go rest (suc d) e p h = omega arith

pub trailing_one : (k n : ℕ) → count_trailing_zeros k n < k → place n (count_trailing_zeros k n) ≡ 1
unfolding count_trailing_zeros
trailing_one zero n h = omega arith
trailing_one (suc k) n h = go (trailing_one k (n / 2)) (n % 2) refl h
  where
    go : (count_trailing_zeros k (n / 2) < k → place (n / 2) (count_trailing_zeros k (n / 2)) ≡ 1)
        → (d : ℕ) → n % 2 ≡ d → under d (count_trailing_zeros k (n / 2)) < suc k → place n (under d (count_trailing_zeros k (n / 2))) ≡ 1
    go rest zero e h = place_suc n (count_trailing_zeros k (n / 2)) ∙ rest (omega arith)
    go rest (suc d) e h = place_zero n ∙ omega (arith, e)

pub trailing_lt : (k n : ℕ) → 0 < n → n < 2 ^ k → count_trailing_zeros k n < k
unfolding count_trailing_zeros
trailing_lt zero n p h = omega arith
trailing_lt (suc k) n p h = go (trailing_lt k (n / 2)) (n % 2) refl
  where
    twice : 2 ^ suc k ≡ 2 ^ k * 2
    twice = pow-suc 2 k

    go : (0 < n / 2 → n / 2 < 2 ^ k → count_trailing_zeros k (n / 2) < k) → (d : ℕ) → n % 2 ≡ d → under d (count_trailing_zeros k (n / 2)) < suc k
    go rest zero e = let r = rest (omega arith) (omega (arith, twice)) in omega arith
    go rest (suc d) e = omega arith

-- the places of n from i on, with nothing below
pub place_kept : (n i p : ℕ) → i ≤ p → place (n / 2 ^ i * 2 ^ i) p ≡ place n p
place_kept n i p h =
    ap (λ m. place m p) (sym (add-zero (n / 2 ^ i * 2 ^ i))) ∙ place_high i p (n / 2 ^ i) 0 (pow_pos i) h
    ∙ sym (place_high i p (n / 2 ^ i) (n % 2 ^ i) (mod-lt n (pow_pos i)) h) ∙ ap (λ m. place m p) (split n i)

pub place_gone : (n i p : ℕ) → p < i → place (n / 2 ^ i * 2 ^ i) p ≡ 0
place_gone n i p h = ap (λ m. place m p) (sym (add-zero (n / 2 ^ i * 2 ^ i))) ∙ place_low i p (n / 2 ^ i) 0 h ∙ zero_place p
