-- What each call of a block kind does to rows of w bits. Each meaning has a name, so that another interface can cite it.
-- Assumes nothing.
use Rattle.std.specs.Prelude.{◌≡◌, ℕ, zero, suc, ◌+◌, ◌-◌, ◌*◌, ◌^◌, ◌<◌, ◌≤◌, min, Bool, true, false, not, ◌&&◌, ◌||◌, ◌⊎◌, List, Some, None, Option}
use Rattle.block.specs.Rows.{bit, tab, worth, value, bit_of}

-- the widest answer of `width`
abbrev pub widest : ℕ
widest = 65528

-- the width that a kind of w places answers; put, read and first go by it
abbrev pub answered : ℕ → ℕ
answered w = min w widest

abbrev pub none_row : ℕ → List Bool
none_row w = tab w (λ i. false)

abbrev pub all_row : ℕ → List Bool
all_row w = tab w (λ i. true)

abbrev pub and_row : ℕ → List Bool → List Bool → List Bool
and_row w a b = tab w (λ i. bit a i && bit b i)

abbrev pub or_row : ℕ → List Bool → List Bool → List Bool
or_row w a b = tab w (λ i. bit a i || bit b i)

-- just one of two bits
abbrev pub differ : Bool → Bool → Bool
differ true true = false
differ true false = true
differ false true = true
differ false false = false

abbrev pub xor_row : ℕ → List Bool → List Bool → List Bool
xor_row w a b = tab w (λ i. differ (bit a i) (bit b i))

abbrev pub not_row : ℕ → List Bool → List Bool
not_row w a = tab w (λ i. not (bit a i))

-- one place on: the bit goes to place 0, and place i gets what place i - 1 held
abbrev pub enters : Bool → (ℕ → Bool) → ℕ → Bool
enters enter f zero = enter
enters enter f (suc i) = f i

-- the row r is a, one place on; what the last place held falls out
pub record Advance (w : ℕ) (a : List Bool) (enter : Bool) (r : List Bool) (out : Bool) : Type 0 where
  pub moved : r ≡ tab w (enters enter (bit a))
  pub fallen : out ≡ bit a (w - 1)

-- the numbers of two rows and a bit make the number of r and 2 ^ w times the bit that falls out
abbrev pub Add : ℕ → List Bool → List Bool → Bool → List Bool → Bool → Type 0
Add w a b enter r out = value w (bit r) + worth out * 2 ^ w ≡ value w (bit a) + value w (bit b) + worth enter

-- the group k, places 8 k to 8 k + 7, is served where it lies below the answered width; past it, it is not
abbrev pub Served : ℕ → ℕ → Type 0
Served w k = 8 * k + 7 < answered w

abbrev pub Past : ℕ → ℕ → Type 0
Past w k = answered w ≤ 8 * k + 7

-- the row r is a, with the bits of a byte at the group k: place 8 k + j gets the bit worth 2 ^ j
pub record Put (w : ℕ) (a : List Bool) (k byte : ℕ) (r : List Bool) : Type 0 where
  pub inside : Served w k → (j : ℕ) → j < 8 → bit r (8 * k + j) ≡ bit_of byte j
  pub outside : Served w k → (i : ℕ) → (i < 8 * k) ⊎ (8 * k + 8 ≤ i) → bit r i ≡ bit a i
  pub past : Past w k → r ≡ a

-- the byte is the group k of the row a: its bit worth 2 ^ j is what place 8 k + j holds
pub record Read (w : ℕ) (a : List Bool) (k byte : ℕ) : Type 0 where
  pub inside : Served w k → (j : ℕ) → j < 8 → bit_of byte j ≡ bit a (8 * k + j)
  pub past : Past w k → byte ≡ 0

-- r is the least place from i on, and below e, at which f holds
abbrev pub Least : (ℕ → Bool) → ℕ → ℕ → Option ℕ → Type 0
Least f i e None = (p : ℕ) → i ≤ p → p < e → f p ≡ false
Least f i e (Some r) = (i ≤ r) × (r < e) × (f r ≡ true) × ((p : ℕ) → i ≤ p → p < r → f p ≡ false)

-- r is the first place from i on, below the answered width, that holds a one
abbrev pub First : ℕ → List Bool → ℕ → Option ℕ → Type 0
First w a i r = Least (bit a) i (answered w) r
