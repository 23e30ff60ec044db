-- Sums bit by bit are sums of numbers. Assumes nothing.
use Rattle.std.proofs.Common.{◌≡◌, ℕ, zero, suc, ◌+◌, ◌*◌, ◌^◌, ◌<◌, Bool, true, false, ◌&&◌, ◌||◌, List, length, sym, refl, ap, ◌∙◌, subst, pow-suc, arith}
use Rattle.block.specs.Rows.{bit, tab, worth, value}
use Rattle.block.specs.Calls.{differ, Add}
use Rattle.block.specs.Sums.{over, sum, sum_row, sum_out, SumsAgree}
use Rattle.block.proofs.Rows.{bit_at, tab_is, value_ext, value_lt, value_bits, digits}

pub over_ext : (x y u v : ℕ → Bool) (enter : Bool) (i : ℕ) → ((j : ℕ) → j < i → x j ≡ u j) → ((j : ℕ) → j < i → y j ≡ v j)
    → over x y enter i ≡ over u v enter i
unfolding over
over_ext x y u v enter zero h l = refl
over_ext x y u v enter (suc i) h l =
    let r = over_ext x y u v enter i (λ j b. h j (omega arith)) (λ j b. l j (omega arith)) in
    λ z. (h i (omega arith) z && l i (omega arith) z) || ((h i (omega arith) z || l i (omega arith) z) && r z)

-- one place of a sum
full_adder : (x y k : Bool) → worth (differ (differ x y) k) + 2 * worth ((x && y) || ((x || y) && k)) ≡ worth x + worth y + worth k
full_adder true true true = refl
full_adder true true false = refl
full_adder true false true = refl
full_adder true false false = refl
full_adder false true true = refl
full_adder false true false = refl
full_adder false false true = refl
full_adder false false false = refl

-- the same with the worth of its place
weighed : (s o x y k P : ℕ) → s + 2 * o ≡ x + y + k → s * P + o * (2 * P) ≡ x * P + y * P + k * P
weighed s o x y k P e = let f : (s + 2 * o) * P ≡ (x + y + k) * P = ap (λ n. n * P) e in omega arith

pub sum_adds : (w : ℕ) (x y : ℕ → Bool) (enter : Bool) → value w (sum x y enter) + worth (over x y enter w) * 2 ^ w ≡ value w x + value w y + worth enter
unfolding value over
sum_adds zero x y k = omega arith
sum_adds (suc n) x y k =
    omega (
      arith,
      sum_adds n x y k,
      weighed (worth (sum x y k n)) (worth (over x y k (suc n))) (worth (x n)) (worth (y n)) (worth (over x y k n)) (2 ^ n)
          (full_adder (x n) (y n) (over x y k n)),
      ap (λ z. worth (over x y k (suc n)) * z) (pow-suc 2 n),
    )

pub sums_agree_lem : SumsAgree
sums_agree_lem w a b enter r out long = (to, from)
  where
    row_adds : value w (bit (sum_row w a b enter)) + worth (sum_out w a b enter) * 2 ^ w ≡ value w (bit a) + value w (bit b) + worth enter
    row_adds =
        ap (λ n. n + worth (sum_out w a b enter) * 2 ^ w) (value_ext w (bit (sum_row w a b enter)) (sum (bit a) (bit b) enter) (bit_at w _ _ refl))
        ∙ sum_adds w (bit a) (bit b) enter

    to : Add w a b enter r out → (r ≡ sum_row w a b enter) × (out ≡ sum_out w a b enter)
    to e =
        let d = digits (2 ^ w) (value w (bit r)) (value w (sum (bit a) (bit b) enter)) out (sum_out w a b enter) (value_lt w _) (value_lt w _) (e ∙ sym (sum_adds w (bit a) (bit b) enter)) in
        (tab_is r w (sum (bit a) (bit b) enter) long (value_bits w (bit r) (sum (bit a) (bit b) enter) d.0), d.1)

    from : (r ≡ sum_row w a b enter) × (out ≡ sum_out w a b enter) → Add w a b enter r out
    from (er, eo) =
        ap (λ z. value w (bit z) + worth out * 2 ^ w) er ∙ ap (λ z. value w (bit (sum_row w a b enter)) + worth z * 2 ^ w) eo ∙ row_adds
