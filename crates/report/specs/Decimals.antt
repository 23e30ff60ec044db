-- How a number is written. Assumes nothing.
use Rattle.std.specs.Prelude.{◌≡◌, ℕ, zero, suc, ◌+◌, ◌-◌, ◌*◌, ◌/◌, ◌%◌, ◌<◌, ◌≤◌, cond, List, [], ◌∷◌, ◌++◌, length, nat_lt, slice_index}

-- the last digits of n, at most `most` of them, without leading zeros; a digit d is the byte 48 + d
unfoldable pub digits : ℕ → ℕ → List ℕ
digits zero n = []
digits (suc most) n = cond (nat_lt n 10) ((48 + n) ∷ []) (digits most (n / 10) ++ ((48 + n % 10) ∷ []))

-- n in decimal, which has at most n + 1 digits. It is defined for every number; std's word for what an integer prints, with which
-- it agrees below 2 ^ 64, stops at 64 digits.
unfoldable pub decimal : ℕ → List ℕ
decimal n = digits (n + 1) n

-- the number that digits write, read from the left after digits that write `before`
abbrev pub read_on : ℕ → List ℕ → ℕ
read_on before [] = before
read_on before (byte ∷ bytes) = read_on (before * 10 + (byte - 48)) bytes

-- the bytes are decimal digits without leading zeros, and they read as n
pub record Writes (bytes : List ℕ) (n : ℕ) : Type 0 where
  pub some : 0 < length bytes
  pub digit : (k : ℕ) → k < length bytes → (48 ≤ slice_index bytes k) × (slice_index bytes k < 58)
  pub leading : 1 < length bytes → 48 < slice_index bytes 0
  pub reads : read_on 0 bytes ≡ n

-- every number is written by its decimal
abbrev pub DecimalsWrite : Type 0
DecimalsWrite = (n : ℕ) → Writes (decimal n) n
