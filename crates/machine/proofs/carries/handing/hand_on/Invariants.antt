use Rattle.std.proofs.Common.{◌≡◌, ℕ, ◌<◌, ◌≤◌, get_or}
use Rattle.machine.specs.Carrying.{no_carry}
use Rattle.machine.proofs.carries.handing.hand_on.Given as goal

-- the carries before the index are handed on, and the others are as they were
abbrev pub invariant-loop-carry : goal.invariant-loop-carry
invariant-loop-carry l =
    ((k : ℕ) → k < l.carry-index → (get_or l.used k no_carry).enter ≡ (get_or l.initial.used k no_carry).leave)
    × ((k : ℕ) → l.carry-index ≤ k → get_or l.used k no_carry ≡ get_or l.initial.used k no_carry)
