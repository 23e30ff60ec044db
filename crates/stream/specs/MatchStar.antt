-- MatchStar: the marks that any number of steps through a class reach, by one sum. Assumes nothing.
use Rattle.std.specs.Prelude.{◌≡◌, ℕ, ◌<◌, ◌≤◌, Bool, true, false, ◌⊎◌, ◌↔◌, List}
use Rattle.block.specs.Rows.{bit, row_of}
use Rattle.block.specs.Calls.{and_row, or_row, xor_row}
use Rattle.block.specs.Sums.{sum_row, sum_out}

-- (((M and C) + C + carry) xor C) or M, on rows of w bits
abbrev pub star_row : ℕ → List Bool → List Bool → Bool → List Bool
star_row w marks class carry = or_row w (xor_row w (sum_row w (and_row w marks class) class carry) class) marks

-- the bit that falls out of the sum
abbrev pub star_out : ℕ → List Bool → List Bool → Bool → Bool
star_out w marks class carry = sum_out w (and_row w marks class) class carry

-- all places from s on and before p are of the class
abbrev pub Through : List Bool → ℕ → ℕ → Type 0
Through class s p = (q : ℕ) → s ≤ q → q < p → bit class q ≡ true

-- some mark at or before p, or the carry, which stands at place 0, reaches p through places of the class alone
abbrev pub Reached : List Bool → List Bool → Bool → ℕ → Type 0
Reached marks class carry p =
    ((s : ℕ) × (s ≤ p) × (bit marks s ≡ true) × Through class s p) ⊎ ((carry ≡ true) × Through class 0 p)

-- a row and a bit show what is reached inside the block and at its end
pub record Star (w : ℕ) (marks class : List Bool) (carry : Bool) (row : List Bool) (out : Bool) : Type 0 where
  pub within : (p : ℕ) → p < w → (bit row p ≡ true) ↔ Reached marks class carry p
  pub behind : (out ≡ true) ↔ Reached marks class carry w

-- Two examples on eight places: marks 2 and class 14 without a carry give 30 and bit 0; no marks and class 255 with a carry
-- give 255 and bit 1.
abbrev pub Examples : Type 0
Examples =
    (star_row 8 (row_of 8 2) (row_of 8 14) false ≡ row_of 8 30)
    × (star_out 8 (row_of 8 2) (row_of 8 14) false ≡ false)
    × (star_row 8 (row_of 8 0) (row_of 8 255) true ≡ row_of 8 255)
    × (star_out 8 (row_of 8 0) (row_of 8 255) true ≡ true)
