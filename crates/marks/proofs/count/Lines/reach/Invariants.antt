-- The lines are counted to where the next line feed is looked for. Assumes nothing.
use Rattle.std.proofs.Common.{◌≡◌, ℕ, ◌+◌, ◌≤◌}
use Rattle.marks.specs.Counting.{FeedsAt, Counted}
use Rattle.marks.proofs.count.Lines.reach.Given as goal

abbrev pub invariant-loop-p : goal.invariant-loop-p
invariant-loop-p g l =
    (goal.iterator-loop-p g).can_next l.p-iterator
    × (goal.iterator-loop-p g).is_finite l.p-iterator
    × (l.p-iterator.block ≡ l.self.feeds)
    × (l.p-iterator.to ≡ l.to)
    × (l.self.at ≤ l.p-iterator.from)
    × (l.p-iterator.from ≤ l.to)
    × (l.line.number ≤ l.self.base + l.p-iterator.from + 1)
    × (l.line.start ≤ l.self.base + l.p-iterator.from)
    × ((t : ℕ → ℕ) → FeedsAt t l.self.base l.to (g.B.Block.row l.self.feeds) → Counted t l.initial.line (l.self.base + l.self.at)
    → Counted t l.line (l.self.base + l.p-iterator.from))
