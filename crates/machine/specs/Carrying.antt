-- The bits that enter steps and leave them, by number. Assumes nothing.
use Rattle.std.specs.Prelude.{ℕ, Bool, false, vec_items, vec_len, slice_index_or}
use Rattle.machine.specs.declared.carries.Carries.{Carries}
use Rattle.machine.specs.declared.carries.Carry.{Carry}

-- no bit
abbrev pub no_carry : Carry
no_carry = record { enter = false; leave = false }

-- how many carries there are
abbrev pub count_of : Carries → ℕ
count_of c = vec_len c.bits

abbrev pub carry_at : Carries → ℕ → Carry
carry_at c k = slice_index_or (vec_items c.bits) k no_carry

-- the bits from the block before
abbrev pub entering : Carries → ℕ → Bool
entering c k = (carry_at c k).enter

-- the bits to the next
abbrev pub leaving : Carries → ℕ → Bool
leaving c k = (carry_at c k).leave
