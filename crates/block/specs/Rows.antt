-- Rows of bits: place 0 is the earliest, and place i is worth 2 ^ i. Assumes nothing.
use Rattle.std.specs.Prelude.{ℕ, zero, suc, ◌+◌, ◌*◌, ◌/◌, ◌%◌, ◌^◌, Bool, true, false, List, [], ◌∷◌, slice_index_or}

-- the bit at place i; behind the row's end there are zeros
unfoldable pub bit : List Bool → ℕ → Bool
bit row i = slice_index_or row i false

-- the row of w bits whose place i holds f i
unfoldable pub tab : ℕ → (ℕ → Bool) → List Bool
tab zero f = []
tab (suc w) f = f 0 ∷ tab w (λ i. f (suc i))

-- a bit as a number
abbrev pub worth : Bool → ℕ
worth true = 1
worth false = 0

-- the number of the first w bits
unfoldable pub value : ℕ → (ℕ → Bool) → ℕ
value zero f = 0
value (suc w) f = value w f + worth (f w) * 2 ^ w

-- a number's bit at place i
abbrev pub is_one : ℕ → Bool
is_one zero = false
is_one (suc n) = true

abbrev pub bit_of : ℕ → ℕ → Bool
bit_of n i = is_one (n / 2 ^ i % 2)

-- a number's first w bits
unfoldable pub row_of : ℕ → ℕ → List Bool
row_of w n = tab w (bit_of n)
