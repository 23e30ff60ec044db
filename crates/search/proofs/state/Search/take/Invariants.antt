use Rattle.std.proofs.Common.{◌≡◌, ℕ, ◌+◌, ◌≤◌, List, ◌++◌, length}
use Rattle.limits.specs.Limits.{longest_recording}
use Rattle.search.specs.Telling.{WhereReady}
use Rattle.search.proofs.Entering.{Going}
use Rattle.search.proofs.state.Search.take.Given as goal

abbrev pub invariant-loop-rest : goal.invariant-loop-rest
invariant-loop-rest g l =
    (done : List ℕ) × (l.piece ≡ done ++ l.rest) × (l.self.state ≡ l.initial.self.state)
    × WhereReady g.B.Block.row g.B.Block.places l.initial.self (length l.initial.blocks) (λ F bytes hs.
    length bytes + length l.piece ≤ longest_recording → Going g.B.Block.row g.B.Block.places l.self F bytes hs done)

abbrev pub decreases-loop-rest : goal.decreases-loop-rest
decreases-loop-rest g l = length l.rest
