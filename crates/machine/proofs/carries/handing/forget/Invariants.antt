use Rattle.std.proofs.Common.{◌≡◌, ℕ, ◌<◌, false, get_or}
use Rattle.machine.specs.Carrying.{no_carry}
use Rattle.machine.proofs.carries.handing.forget.Given as goal

-- no bit enters the steps before the index
abbrev pub invariant-loop-carry : goal.invariant-loop-carry
invariant-loop-carry l = (k : ℕ) → k < l.carry-index → (get_or l.used k no_carry).enter ≡ false
