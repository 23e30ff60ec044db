-- Sums byte by byte are sums bit by bit. Assumes nothing.
use Rattle.std.proofs.Common.{◌≡◌, ℕ, zero, suc, ◌+◌, ◌*◌, ◌^◌, ◌<◌, Bool, ◌&&◌, ◌||◌, sym, ap, ◌∙◌, ap₂, mod-eq_of_lt, arith}
use Rattle.block.specs.Rows.{bit_of, worth, value}
use Rattle.block.specs.Calls.{differ}
use Rattle.block.specs.Sums.{over, sum}
use Rattle.block.proofs.Rows.{value_ext, value_lt, digits}
use Rattle.block.proofs.Numbers.{value_of, bit_value}
use Rattle.block.proofs.Sums.{sum_adds}

-- the carries from place n on
over_on : (x y : ℕ → Bool) (enter : Bool) (n j : ℕ) → over (λ i. x (n + i)) (λ i. y (n + i)) (over x y enter n) j ≡ over x y enter (n + j)
unfolding over
over_on x y enter n zero = let e : n ≡ n + 0 = omega arith in ap (over x y enter) e
over_on x y enter n (suc j) =
    let e : suc (n + j) ≡ n + suc j = omega arith in
    (λ z. (x (n + j) && y (n + j)) || ((x (n + j) || y (n + j)) && over_on x y enter n j z)) ∙ ap (over x y enter) e

number : (p : ℕ) (f : ℕ → Bool) → p < 2 ^ 8 → ((j : ℕ) → j < 8 → bit_of p j ≡ f j) → p ≡ value 8 f
number p f h bits = sym (mod-eq_of_lt h) ∙ value_of 8 p ∙ value_ext 8 (bit_of p) f bits

-- p and q are the group k of x and y, mid is the carry into it; r and out are their sum
module _ (x y : ℕ → Bool) (enter : Bool) (k p q r : ℕ) (mid out : Bool) (hp : p < 2 ^ 8) (hq : q < 2 ^ 8) (hr : r < 2 ^ 8)
    (xs : (j : ℕ) → j < 8 → bit_of p j ≡ x (8 * k + j)) (ys : (j : ℕ) → j < 8 → bit_of q j ≡ y (8 * k + j)) (into : mid ≡ over x y enter (8 * k))
    (adds : r + worth out * 256 ≡ p + q + worth mid) where
  abbrev s : ℕ → Bool
  s = sum (λ i. x (8 * k + i)) (λ i. y (8 * k + i)) mid

  abbrev o : ℕ → Bool
  o = over (λ i. x (8 * k + i)) (λ i. y (8 * k + i)) mid

  parts : (r ≡ value 8 s) × (out ≡ o 8)
  parts =
      digits (2 ^ 8) r (value 8 s) out (o 8) hr (value_lt 8 s)
      (adds ∙ ap₂ (λ m n. m + n + worth mid) (number p (λ i. x (8 * k + i)) hp xs) (number q (λ i. y (8 * k + i)) hq ys)
      ∙ sym (sum_adds 8 (λ i. x (8 * k + i)) (λ i. y (8 * k + i)) mid))

  carried : (j : ℕ) → o j ≡ over x y enter (8 * k + j)
  carried j = ap (λ m. over (λ i. x (8 * k + i)) (λ i. y (8 * k + i)) m j) into ∙ over_on x y enter (8 * k) j

  pub sum_here : (j : ℕ) → j < 8 → bit_of r j ≡ sum x y enter (8 * k + j)
  sum_here j h = ap (λ n. bit_of n j) parts.0 ∙ bit_value 8 s j h ∙ ap (differ (differ (x (8 * k + j)) (y (8 * k + j)))) (carried j)

  pub over_here : out ≡ over x y enter (8 * (k + 1))
  over_here = let e : 8 * k + 8 ≡ 8 * (k + 1) = omega arith in parts.1 ∙ carried 8 ∙ ap (over x y enter) e
