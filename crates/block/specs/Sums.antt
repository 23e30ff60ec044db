-- Sums of rows bit by bit, as a circuit makes them. Assumes nothing.
use Rattle.std.specs.Prelude.{◌≡◌, ℕ, zero, suc, Bool, ◌&&◌, ◌||◌, ◌↔◌, List, length}
use Rattle.block.specs.Rows.{bit, tab}
use Rattle.block.specs.Calls.{differ, Add}

-- the carry into place i
unfoldable pub over : (ℕ → Bool) → (ℕ → Bool) → Bool → ℕ → Bool
over x y enter zero = enter
over x y enter (suc i) = (x i && y i) || ((x i || y i) && over x y enter i)

-- the sum's bit at place i
abbrev pub sum : (ℕ → Bool) → (ℕ → Bool) → Bool → ℕ → Bool
sum x y enter i = differ (differ (x i) (y i)) (over x y enter i)

abbrev pub sum_row : ℕ → List Bool → List Bool → Bool → List Bool
sum_row w a b enter = tab w (sum (bit a) (bit b) enter)

-- the bit that falls out
abbrev pub sum_out : ℕ → List Bool → List Bool → Bool → Bool
sum_out w a b enter = over (bit a) (bit b) enter w

-- A row of w bits adds two others exactly when it is their sum bit by bit: each sum exists and is the only one.
abbrev pub SumsAgree : Type 0
SumsAgree =
    (w : ℕ) (a b : List Bool) (enter : Bool) (r : List Bool) (out : Bool) →
    length r ≡ w →
    Add w a b enter r out ↔ ((r ≡ sum_row w a b enter) × (out ≡ sum_out w a b enter))
