-- A lawful kind passes: what its calls owe is what the judges look for. Assumes nothing.
use Rattle.std.proofs.Common.{◌≡◌, ℕ, zero, suc, ◌+◌, ◌-◌, ◌<◌, ◌≤◌, Bool, true, false, ◌&&◌, ◌||◌, List, length, is_ok, Ok, Err, Result, sym, refl, ap, ◌∙◌, inl, inr, arith}
use native.Mathlib.Decide.{dec_lt}
use Rattle.conform.specs.declared.Call.{Call}
use Rattle.conform.specs.declared.Deviation.{Deviation}
use Rattle.block.specs.Rows.{bit, tab}
use Rattle.block.specs.Calls.{answered, none_row, all_row, differ, enters, Advance, Add}
use Rattle.block.specs.Sums.{over, sum}
use Rattle.block.proofs.Rows.{bit_at, enters_last}
use Rattle.block.proofs.Sums.{sums_agree_lem}
use Rattle.conform.specs.Judged.{Agree, Judged, SumSeen, SumJudged}

-- what agrees is passed
pub passes : (c : Call) (e : ℕ) (f g : ℕ → Bool) (r : Result (Unit {0}) Deviation) → Judged c e f g r → Agree e f g → is_ok r ≡ true
passes c e f g (Ok x) j h = refl
passes c e f g (Err d) (is, (to, before, here)) h = absurd (here (λ i l. h i (omega arith)))

pub sum_passes : (c : Call) (w : ℕ) (a b : List Bool) (enter : Bool) (s : List Bool) (out : Bool) (r : Result (Unit {0}) Deviation)
    → SumJudged c w a b enter s out r → SumSeen w a b enter s out → is_ok r ≡ true
sum_passes c w a b enter s out (Ok x) j h = refl
sum_passes c w a b enter s out (Err d) (is, inl (to, before, here)) h = absurd (here (λ i l. h.total i (omega arith)))
sum_passes c w a b enter s out (Err d) (is, inr o) h = absurd (o.fallen (h.fallen o.seen))

pub agree_tab : (w : ℕ) (row : List Bool) (f : ℕ → Bool) → row ≡ tab w f → Agree (answered w) (bit row) f
agree_tab w row f e i h = bit_at w row f e i (omega arith)

pub sum_seen : (w : ℕ) (a b : List Bool) (enter : Bool) (r : List Bool) (out : Bool) → length r ≡ w → Add w a b enter r out → SumSeen w a b enter r out
sum_seen w a b enter r out long adds =
    let s = (sums_agree_lem w a b enter r out long).0 adds in
    record { total = agree_tab w r (sum (bit a) (bit b) enter) s.0; fallen = λ h. s.1 }

-- one place on is the sum of a row with itself
self_over : (x k : Bool) → ((x && x) || ((x || x) && k)) ≡ x
self_over true k = refl
self_over false k = refl

self_sum : (x k : Bool) → differ (differ x x) k ≡ k
self_sum true true = refl
self_sum true false = refl
self_sum false true = refl
self_sum false false = refl

over_self : (f : ℕ → Bool) (enter : Bool) (i : ℕ) → over f f enter i ≡ enters enter f i
unfolding over
over_self f enter zero = refl
over_self f enter (suc i) = self_over (f i) (over f f enter i)

pub advance_seen : (w : ℕ) (a : List Bool) (enter : Bool) (r : List Bool) (out : Bool) → 8 ≤ w → Advance w a enter r out → SumSeen w a a enter r out
advance_seen w a enter r out some moves =
    record {
      total = λ i h. agree_tab w r (enters enter (bit a)) moves.moved i h ∙ sym (self_sum (bit a i) (over (bit a) (bit a) enter i) ∙ over_self (bit a) enter i);
      fallen = λ h. moves.fallen ∙ sym (over_self (bit a) enter w ∙ enters_last enter (bit a) w (omega arith));
    }

-- the first one from i on, by the place i and the first one behind it
module _ (w i : ℕ) (a : List Bool) (seen : i < answered w) where
  before : bit a i ≡ false → (e : ℕ) → ((p : ℕ) → i + 1 ≤ p → p < e → bit a p ≡ false) → (p : ℕ) → i ≤ p → p < e → bit a p ≡ false
  before off e none p h l =
      elim (dec_lt i p) [ yes u ↦ none p (omega arith) l | no u ↦ let same : p ≡ i = omega arith in ap (bit a) same ∙ off ]

-- what falls out of all and of none
pub fallen_of : (w : ℕ) (a : List Bool) (k enter : Bool) (r : List Bool) (out : Bool) → 8 ≤ w → a ≡ tab w (λ i. k) → Advance w a enter r out → out ≡ k
fallen_of w a k enter r out some is moves = moves.fallen ∙ bit_at w a (λ i. k) is (w - 1) (omega arith)

-- a carry goes through ones over zeros
through : (x y : ℕ → Bool) (enter : Bool) (i : ℕ) → ((j : ℕ) → j < i → x j ≡ true) → ((j : ℕ) → j < i → y j ≡ false) → over x y enter i ≡ enter
unfolding over
through x y enter zero xs ys = refl
through x y enter (suc i) xs ys =
    let o = over x y enter i in
    let h : i < suc i = omega arith in
    (λ z. (xs i h z && ys i h z) || ((xs i h z || ys i h z) && o)) ∙ through x y enter i (λ j l. xs j (omega arith)) (λ j l. ys j (omega arith))

pub carried_out : (w : ℕ) (a b : List Bool) (enter : Bool) (r : List Bool) (out : Bool) → length r ≡ w → a ≡ all_row w → b ≡ none_row w → Add w a b enter r out → out ≡ enter
carried_out w a b enter r out long ones zeros adds =
    ((sums_agree_lem w a b enter r out long).0 adds).1 ∙ through (bit a) (bit b) enter w (bit_at w a _ ones) (bit_at w b _ zeros)
