-- The rows that a block is made ready with. Assumes nothing.
use Rattle.std.specs.Prelude.{◌≡◌, ℕ, ◌+◌, ◌<◌, Bool, List, length, slice_index, slice_index_or}
use Rattle.block.specs.Rows.{bit, tab}
use Rattle.block.specs.Calls.{enters}
use Rattle.stream.specs.Sets.{has}
use Rattle.stream.specs.declared.set.ByteSet.{ByteSet}
use Rattle.program.specs.Compile.{feeds_at, starts_at, classes_at}
use Rattle.machine.specs.Matching.{feeds_of}

-- no byte value
abbrev pub no_set : ByteSet
no_set = record { low = 0; high = 0 }

-- the rows hold the line feeds of the piece, the line starts, with this bit at the first place, and the classes of the sets
pub record Rules (w : ℕ) (piece : List ℕ) (start : Bool) (sets : List ByteSet) (rows : ℕ → List Bool) : Type 0 where
  pub feeds : rows feeds_at ≡ feeds_of w piece
  pub starts : rows starts_at ≡ tab w (enters start (bit (feeds_of w piece)))
  pub classes : (c : ℕ) → c < length sets → rows (classes_at + c) ≡ tab w (λ i. has (slice_index_or sets c no_set) (slice_index piece i))
