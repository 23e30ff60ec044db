-- Sets of byte values. Assumes nothing.
use Rattle.std.specs.Prelude.{◌≡◌, ℕ, ◌-◌, ◌<◌, ◌≤◌, Bool, cond, List, length, Ok, Err, Result, nat_lt}
use Rattle.block.specs.Rows.{tab, bit_of}
use Rattle.refusal.specs.declared.Refusal.{Refusal}
use Rattle.refusal.specs.declared.Refusal.TheVariants.{TooFewBlocks}
use Rattle.stream.specs.Tables.{rows, held}
use Rattle.stream.specs.declared.set.ByteSet.{ByteSet}

-- whether the set has the value v
abbrev pub has : ByteSet → ℕ → Bool
has s v = cond (nat_lt v 128) (bit_of s.low v) (bit_of s.high (v - 128))

-- what `class` answers: the places whose byte is in the set
abbrev pub Classes : {B : Type 0} → (B → List Bool) → ℕ → List B → ByteSet → Result B Refusal → Type 0
Classes row w table set (Ok r) = (8 ≤ length table) × (row r ≡ tab w (λ i. has set (held (rows row table) i)))
Classes row w table set (Err e) = (length table < 8) × (e ≡ TooFewBlocks)
