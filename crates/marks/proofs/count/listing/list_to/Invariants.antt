-- The ends before the place where the next one is looked for are in the table. Assumes nothing.
use Rattle.std.proofs.Common.{◌≡◌}
use Rattle.marks.proofs.Listed.{Listed}
use Rattle.marks.proofs.count.listing.list_to.Given as goal

abbrev pub invariant-loop-p : goal.invariant-loop-p
invariant-loop-p g l =
    (goal.iterator-loop-p g).can_next l.p-iterator
    × (goal.iterator-loop-p g).is_finite l.p-iterator
    × (l.p-iterator.block ≡ l.fn.ends)
    × (l.p-iterator.to ≡ l.end)
    × Listed g.B.Block.row l.end l.fn.ends l.initial.lines l.initial.table l.count l.lines l.p-iterator.from l.table l.got
