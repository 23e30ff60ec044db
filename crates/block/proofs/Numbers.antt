-- The rows of numbers, for a kind that keeps its bits in one. Assumes nothing.
use Rattle.std.proofs.Common.{◌≡◌, ℕ, zero, suc, ◌+◌, ◌-◌, ◌*◌, ◌/◌, ◌%◌, ◌^◌, ◌<◌, ◌≤◌, min, max, Bool, true, false, not, ◌&&◌, ◌||◌, List, length, sym, refl, ap, ◌∙◌, ap₂, mod-lt, mod-eq_of_lt, mul_assoc, add-mul, pow-suc, arith, pow_pos}
use lib.Arith.{digits_mod}
use lib.Bits.{bit_and, bit_or, bit_xor}
use lib.Pow.{split}
use Rattle.block.specs.Rows.{bit, tab, worth, value, is_one, bit_of, row_of}
use Rattle.block.specs.Calls.{none_row, all_row, and_row, or_row, xor_row, not_row, differ, enters, Advance, Add}
use Rattle.block.proofs.Places.{place, place_and, place_or, place_xor, place_zero, place_suc, place_low, place_high, place_le, place_past, place_ones, zero_place}
use Rattle.block.proofs.Rows.{bit_tab, tab_ext, enters_ext, enters_last, length-tab, value_ext, value_lt, value_bits}

pub length_row : (w n : ℕ) → length (row_of w n) ≡ w
unfolding row_of
length_row w n = length-tab w (bit_of n)

pub bit_row : (w n i : ℕ) → i < w → bit (row_of w n) i ≡ bit_of n i
unfolding row_of
bit_row w n i h = bit_tab w (bit_of n) i h

-- a number whose bits are f's
pub row_is : (w n : ℕ) (f : ℕ → Bool) → ((i : ℕ) → i < w → bit_of n i ≡ f i) → row_of w n ≡ tab w f
unfolding row_of
row_is w n f h = tab_ext w (bit_of n) f h

-- ---- place by place

one_min : (x y : ℕ) → x < 2 → y < 2 → is_one (min x y) ≡ (is_one x && is_one y)
one_min zero y h l = ap is_one (let e : min zero y ≡ zero = omega arith in e)
one_min (suc x) zero h l = ap is_one (let e : min (suc x) zero ≡ zero = omega arith in e)
one_min (suc x) (suc y) h l = ap is_one (let e : min (suc x) (suc y) ≡ suc (min x y) = omega arith in e)

one_max : (x y : ℕ) → x < 2 → y < 2 → is_one (max x y) ≡ (is_one x || is_one y)
one_max zero zero h l = ap is_one (let e : max zero zero ≡ zero = omega arith in e)
one_max zero (suc y) h l = ap is_one (let e : max zero (suc y) ≡ suc y = omega arith in e)
one_max (suc x) y h l = ap is_one (let e : max (suc x) y ≡ suc (max x y - 1) = omega arith in e)

one_sum : (x y : ℕ) → x < 2 → y < 2 → is_one ((x + y) % 2) ≡ differ (is_one x) (is_one y)
one_sum zero zero h l = refl
one_sum zero (suc zero) h l = refl
one_sum (suc zero) zero h l = refl
one_sum (suc zero) (suc zero) h l = refl
one_sum (suc (suc x)) y h l = absurd (omega arith)
one_sum zero (suc (suc y)) h l = absurd (omega arith)
one_sum (suc zero) (suc (suc y)) h l = absurd (omega arith)

pub bit_and_lem : (a b i : ℕ) → bit_of (bit_and a b) i ≡ (bit_of a i && bit_of b i)
bit_and_lem a b i = ap is_one (place_and a b i) ∙ one_min (place a i) (place b i) (place_le a i) (place_le b i)

pub bit_or_lem : (a b i : ℕ) → bit_of (bit_or a b) i ≡ (bit_of a i || bit_of b i)
bit_or_lem a b i = ap is_one (place_or a b i) ∙ one_max (place a i) (place b i) (place_le a i) (place_le b i)

pub bit_xor_lem : (a b i : ℕ) → bit_of (bit_xor a b) i ≡ differ (bit_of a i) (bit_of b i)
bit_xor_lem a b i = ap is_one (place_xor a b i) ∙ one_sum (place a i) (place b i) (place_le a i) (place_le b i)

module _ (w a b : ℕ) where
  pub row_and : row_of w (bit_and a b) ≡ and_row w (row_of w a) (row_of w b)
  row_and = row_is w (bit_and a b) _ (λ i l. bit_and_lem a b i ∙ sym (ap₂ ◌&&◌ (bit_row w a i l) (bit_row w b i l)))

  pub row_or : row_of w (bit_or a b) ≡ or_row w (row_of w a) (row_of w b)
  row_or = row_is w (bit_or a b) _ (λ i l. bit_or_lem a b i ∙ sym (ap₂ ◌||◌ (bit_row w a i l) (bit_row w b i l)))

  pub row_xor : row_of w (bit_xor a b) ≡ xor_row w (row_of w a) (row_of w b)
  row_xor = row_is w (bit_xor a b) _ (λ i l. bit_xor_lem a b i ∙ sym (ap₂ differ (bit_row w a i l) (bit_row w b i l)))

pub row_none : (w : ℕ) → row_of w 0 ≡ none_row w
row_none w = row_is w 0 _ (λ i l. ap is_one (zero_place i))

pub row_all : (w : ℕ) → row_of w (2 ^ w - 1) ≡ all_row w
row_all w = row_is w (2 ^ w - 1) _ (λ i l. ap is_one (place_ones w i l))

-- what a number lacks to all ones
not_place : (w r n i : ℕ) → r + n + 1 ≡ 2 ^ w → i < w → place r i + place n i ≡ 1
not_place zero r n i e h = omega arith
not_place (suc w) r n zero e h = let twice : 2 ^ suc w ≡ 2 ^ w * 2 = pow-suc 2 w in ap₂ ◌+◌ (place_zero r) (place_zero n) ∙ omega arith
not_place (suc w) r n (suc i) e h =
    let twice : 2 ^ suc w ≡ 2 ^ w * 2 = pow-suc 2 w in
    ap₂ ◌+◌ (place_suc r i) (place_suc n i) ∙ not_place w (r / 2) (n / 2) i (omega arith) (omega arith)

one_not : (x y : ℕ) → x + y ≡ 1 → is_one x ≡ not (is_one y)
one_not zero zero e = absurd (omega arith)
one_not zero (suc y) e = refl
one_not (suc x) zero e = refl
one_not (suc x) (suc y) e = absurd (omega arith)

pub row_not : (w n : ℕ) → n < 2 ^ w → row_of w (2 ^ w - 1 - n) ≡ not_row w (row_of w n)
row_not w n h =
    row_is w (2 ^ w - 1 - n) _
    (λ i l. one_not (place (2 ^ w - 1 - n) i) (place n i) (not_place w (2 ^ w - 1 - n) n i (omega arith) l) ∙ ap not (sym (bit_row w n i l)))

-- ---- numbers and their bits

pub digit : (d : ℕ) → d < 2 → d ≡ worth (is_one d)
digit zero h = refl
digit (suc d) h = omega arith

-- the first w bits are what the number is past multiples of 2 ^ w
pub value_of : (w n : ℕ) → n % 2 ^ w ≡ value w (bit_of n)
unfolding value
value_of zero n = let e : n % 1 ≡ 0 = omega arith in e
value_of (suc w) n =
    let P : ℕ = 2 ^ w in
    let twice : 2 ^ suc w ≡ 2 * P = pow-suc 2 w ∙ omega arith in
    let q : ℕ = n / P in
    let m : ℕ = n % P in
    let lt : m < P = mod-lt n (pow_pos w) in
    let whole : q * P + m ≡ n = split n w in
    let h : q ≡ (q / 2) * 2 + q % 2 = omega arith in
    let d2 : q % 2 < 2 = omega arith in
    let low : (q % 2) * P + m < 2 * P = low_lt (q % 2) P m d2 lt in
    let cut : q * P ≡ (q / 2) * (2 * P) + (q % 2) * P = ap (λ x. x * P) h ∙ add-mul ((q / 2) * 2) (q % 2) P ∙ ap (λ x. x + (q % 2) * P) (mul_assoc (q / 2) 2 P) in
    let e : n ≡ (q / 2) * (2 * P) + ((q % 2) * P + m) = omega arith in
    ap (λ x. n % x) twice ∙ ap (λ x. x % (2 * P)) e ∙ digits_mod (q / 2) low
    ∙ ap₂ (λ x y. x * P + y) (digit (q % 2) d2) (value_of w n) ∙ omega arith
  where
    low_lt : (d P m : ℕ) → d < 2 → m < P → d * P + m < 2 * P
    low_lt zero P m h l = omega arith
    low_lt (suc zero) P m h l = omega arith
    low_lt (suc (suc d)) P m h l = absurd (omega arith)

-- a row's number is the number that it is of
pub value_row : (w n : ℕ) → n < 2 ^ w → value w (bit (row_of w n)) ≡ n
value_row w n h = value_ext w (bit (row_of w n)) (bit_of n) (λ i l. bit_row w n i l) ∙ sym (value_of w n) ∙ mod-eq_of_lt h

-- a number of w bits has those bits, and no more
pub bit_value : (w : ℕ) (f : ℕ → Bool) (i : ℕ) → i < w → bit_of (value w f) i ≡ f i
bit_value w f i h = value_bits w (bit_of (value w f)) f (sym (value_of w (value w f)) ∙ mod-eq_of_lt (value_lt w f)) i h

-- numbers below 2 ^ w are equal where their first w bits are
pub same_number : (w m n : ℕ) → m < 2 ^ w → n < 2 ^ w → ((i : ℕ) → i < w → bit_of m i ≡ bit_of n i) → m ≡ n
same_number w m n hm hn h =
    sym (mod-eq_of_lt hm) ∙ value_of w m ∙ value_ext w (bit_of m) (bit_of n) h ∙ sym (value_of w n) ∙ mod-eq_of_lt hn

-- ---- sums and advances

pub row_add : (w x y s : ℕ) (enter out : Bool) → x < 2 ^ w → y < 2 ^ w → s < 2 ^ w → s + worth out * 2 ^ w ≡ x + y + worth enter
    → Add w (row_of w x) (row_of w y) enter (row_of w s) out
row_add w x y s enter out hx hy hs adds =
    ap (λ n. n + worth out * 2 ^ w) (value_row w s hs) ∙ adds ∙ sym (ap₂ (λ m n. m + n + worth enter) (value_row w x hx) (value_row w y hy))

bit_zero : (n : ℕ) → bit_of n 0 ≡ is_one (n % 2)
bit_zero n = ap is_one (place_zero n)

-- one place on: twice the number, and the bit
module _ (w x s : ℕ) (enter out : Bool) (some : 0 < w) (hs : s < 2 ^ w) (moves : s + worth out * 2 ^ w ≡ 2 * x + worth enter) where
  whole : worth out * 2 ^ w + s ≡ 2 * x + worth enter
  whole = omega arith

  bit_moved : (i : ℕ) → bit_of (2 * x + worth enter) i ≡ enters enter (bit_of x) i
  bit_moved zero = bit_zero (2 * x + worth enter) ∙ low enter
    where
      low : (k : Bool) → is_one ((2 * x + worth k) % 2) ≡ k
      low true = ap is_one (let e : (2 * x + 1) % 2 ≡ 1 = omega arith in e)
      low false = ap is_one (let e : (2 * x + 0) % 2 ≡ 0 = omega arith in e)
  bit_moved (suc i) = ap is_one (place_suc (2 * x + worth enter) i) ∙ ap (λ n. bit_of n i) (half enter)
    where
      half : (k : Bool) → (2 * x + worth k) / 2 ≡ x
      half true = omega arith
      half false = omega arith

  lone : (b : Bool) → bit_of (worth b) 0 ≡ b
  lone true = refl
  lone false = refl

  pub row_advance : Advance w (row_of w x) enter (row_of w s) out
  row_advance =
      record {
        moved =
            row_is w s _
            (λ i l.
            ap is_one (sym (place_low w i (worth out) s l)) ∙ ap (λ n. bit_of n i) whole ∙ bit_moved i
            ∙ sym (enters_ext enter (bit (row_of w x)) (bit_of x) i (λ j u. bit_row w x j (omega arith))));
        fallen =
            let z : w - w ≡ 0 = omega arith in
            let e : bit_of (2 * x + worth enter) w ≡ out =
            ap (λ n. bit_of n w) (sym whole) ∙ ap is_one (place_high w w (worth out) s hs (omega arith) ∙ ap (place (worth out)) z) ∙ lone out in
            sym e ∙ bit_moved w ∙ enters_last enter (bit_of x) w some ∙ sym (bit_row w x (w - 1) (omega arith));
      }
