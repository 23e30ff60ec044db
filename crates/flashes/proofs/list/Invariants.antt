use Rattle.std.proofs.Common.{◌≡◌, length}
use Rattle.flashes.proofs.list.Given as goal

abbrev pub invariant-loop : goal.invariant-loop
invariant-loop g l = (length l.piece ≡ length l.initial.piece) × (length l.ends ≡ length l.initial.ends)
