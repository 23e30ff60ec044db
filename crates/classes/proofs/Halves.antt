-- The values of sets, from the bits of their halves. Assumes nothing.
use Rattle.std.proofs.Common.{◌≡◌, ℕ, ◌+◌, ◌-◌, ◌*◌, ◌%◌, ◌^◌, ◌<◌, ◌≤◌, Bool, true, false, cond, not, ltb, sym, refl, ap, ◌∙◌, ⊎_elim, one-mul, arith, pow_pos, shl_exact, ltb-false, ltb-true}
use Rattle.std.proofs.lemmas.Bool.{lt-ltb, le-ltb, cases_lt}
use Rattle.block.specs.Rows.{bit, is_one, bit_of, row_of}
use Rattle.block.proofs.Places.{place_ones, place_past}
use Rattle.block.proofs.Rows.{bit_tab}
use Rattle.block.proofs.Numbers.{bit_row, row_not}

-- what a set with these halves has
abbrev pub of : ℕ → ℕ → ℕ → Bool
of low high v = cond (ltb v 128) (bit_of low v) (bit_of high (v - 128))

-- a value is in one half or in the other
pub halves : (low high : ℕ) (f : ℕ → Bool) → ((v : ℕ) → v < 128 → bit_of low v ≡ f v) → ((v : ℕ) → v < 128 → bit_of high v ≡ f (v + 128)) → (v : ℕ) → v < 256 → of low high v ≡ f v
halves low high f a b v l = go (ltb v 128) refl
  where
    go : (t : Bool) → ltb v 128 ≡ t → cond t (bit_of low v) (bit_of high (v - 128)) ≡ f v
    go true e = a v (ltb-true v 128 e)
    go false e = let h = ltb-false v 128 e in b (v - 128) (omega arith) ∙ ap f (let m : (v - 128) + 128 ≡ v = omega arith in m)

pub low_half : (low high v : ℕ) → v < 128 → of low high v ≡ bit_of low v
low_half low high v l = ap (λ t. cond t (bit_of low v) (bit_of high (v - 128))) (lt-ltb v 128 l)

pub high_half : (low high v : ℕ) → v < 128 → of low high (v + 128) ≡ bit_of high v
high_half low high v l = ap (λ t. cond t (bit_of low (v + 128)) (bit_of high (v + 128 - 128))) (le-ltb (v + 128) 128 (omega arith)) ∙ ap (bit_of high) (let m : v + 128 - 128 ≡ v = omega arith in m)

pub bit_not : (n v : ℕ) → n < 2 ^ 128 → v < 128 → bit_of (2 ^ 128 - 1 - n) v ≡ not (bit_of n v)
bit_not n v h l =
    sym (bit_row 128 (2 ^ 128 - 1 - n) v l) ∙ ap (λ r. bit r v) (row_not 128 n h) ∙ bit_tab 128 (λ i. not (bit (row_of 128 n) i)) v l ∙ ap not (bit_row 128 n v l)

-- a number of n ones
pub bit_ones : (n v : ℕ) → bit_of (2 ^ n - 1) v ≡ ltb v n
bit_ones n v = ⊎_elim (λ h. ap is_one (place_ones n v h) ∙ sym (lt-ltb v n h)) (λ h. let p = pow_pos n in ap is_one (place_past n (2 ^ n - 1) v (omega arith) h) ∙ sym (le-ltb v n h)) (cases_lt v n)

pub shifted : (n : ℕ) → n < 128 → 1 ≤ (1 * 2 ^ n) % 2 ^ 128
shifted n h =
    let e : (1 * 2 ^ n) % 2 ^ 128 ≡ 2 ^ n = shl_exact 1 n 128 (omega arith) (omega arith) ∙ one-mul (2 ^ n) in
    omega (arith, e, pow_pos n)

pub shifted_ones : (n v : ℕ) → n < 128 → bit_of ((1 * 2 ^ n) % 2 ^ 128 - 1) v ≡ ltb v n
shifted_ones n v h =
    let e : (1 * 2 ^ n) % 2 ^ 128 ≡ 2 ^ n = shl_exact 1 n 128 (omega arith) (omega arith) ∙ one-mul (2 ^ n) in
    ap (λ m. bit_of (m - 1) v) e ∙ bit_ones n v
