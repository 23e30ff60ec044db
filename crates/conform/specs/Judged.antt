-- What the judges find: whether an answer holds the bits that it should, as far as the calls show them. Assumes nothing.
use Rattle.std.specs.Prelude.{◌≡◌, ℕ, ◌+◌, ◌*◌, ◌/◌, ◌%◌, ◌<◌, ◌≤◌, Bool, true, false, cond, not, ◌&&◌, ◌||◌, ◌⊎◌, List, length, Ok, Err, Result, ◌==◌, slice_index}
use Rattle.block.specs.Rows.{bit, bit_of}
use Rattle.block.specs.Calls.{widest, answered, differ}
use Rattle.block.specs.Sums.{over, sum}
use Rattle.conform.specs.declared.Call.{Call}
use Rattle.conform.specs.declared.Call.TheVariants as call
use Rattle.conform.specs.declared.Deviation.{Deviation}
use Rattle.conform.specs.declared.Logic.{Logic}
use Rattle.conform.specs.declared.Logic.TheVariants.{Nothing, Everything, And, Or, Xor, Not}

-- f and g hold the same bits below e
abbrev pub Agree : ℕ → (ℕ → Bool) → (ℕ → Bool) → Type 0
Agree e f g = (i : ℕ) → i < e → f i ≡ g i

-- the byte's bits are those of f at the group k
abbrev pub HasByte : (ℕ → Bool) → ℕ → ℕ → Type 0
HasByte f k byte = (j : ℕ) → j < 8 → bit_of byte j ≡ f (8 * k + j)

-- the first group at which f and g differ, below e, begins at p
abbrev pub Differ : ℕ → (ℕ → Bool) → (ℕ → Bool) → ℕ → Type 0
Differ e f g p = (p + 8 ≤ e) × Agree p f g × (Agree (p + 8) f g → ⊥)

-- a judge passes what agrees; else it names the call, and the place where the first group that differs begins
abbrev pub Judged : Call → ℕ → (ℕ → Bool) → (ℕ → Bool) → Result (Unit {0}) Deviation → Type 0
Judged c e f g (Ok x) = Agree e f g
Judged c e f g (Err d) = (d.call ≡ c) × Differ e f g d.place

abbrev pub call_of : Logic → Call
call_of Nothing = call.None
call_of Everything = call.All
call_of And = call.And
call_of Or = call.Or
call_of Xor = call.Xor
call_of Not = call.Not

-- what a call that works place by place makes of two bits
abbrev pub made : Logic → Bool → Bool → Bool
made Nothing x y = false
made Everything x y = true
made And x y = x && y
made Or x y = x || y
made Xor x y = differ x y
made Not x y = not x

-- r is the sum of a and b below the answered width; where all w places are seen, the bit that falls out is known too
pub record SumSeen (w : ℕ) (a b : List Bool) (enter : Bool) (r : List Bool) (out : Bool) : Type 0 where
  pub total : Agree (answered w) (bit r) (sum (bit a) (bit b) enter)
  pub fallen : w < widest → out ≡ over (bit a) (bit b) enter w

-- the total is right, and the bit that falls out is not
pub record OutWrong (w : ℕ) (a b : List Bool) (enter : Bool) (r : List Bool) (out : Bool) (p : ℕ) : Type 0 where
  pub total : Agree (answered w) (bit r) (sum (bit a) (bit b) enter)
  pub seen : w < widest
  pub fallen : out ≡ over (bit a) (bit b) enter w → ⊥
  pub at : p ≡ w

abbrev pub SumJudged : Call → (w : ℕ) (a b : List Bool) (enter : Bool) (r : List Bool) (out : Bool) → Result (Unit {0}) Deviation → Type 0
SumJudged c w a b enter r out (Ok x) = SumSeen w a b enter r out
SumJudged c w a b enter r out (Err d) = (d.call ≡ c) × (Differ (answered w) (bit r) (sum (bit a) (bit b) enter) d.place ⊎ OutWrong w a b enter r out d.place)

-- the bits of f, with those of a byte at the group k
abbrev pub written : ℕ → ℕ → (ℕ → Bool) → ℕ → Bool
written k byte f i = cond (i / 8 == k) (bit_of byte (i % 8)) (f i)

-- the bits of bytes, over and over
abbrev pub repeated : List ℕ → ℕ → Bool
repeated bytes i = bit_of (slice_index bytes (i / 8 % length bytes)) (i % 8)
