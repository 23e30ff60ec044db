use Rattle.std.proofs.Common.{ℕ, ◌≤◌}
use Rattle.std.specs.Slice.Iter.{chunks_rest, chunks_size}
use Rattle.flash.specs.Marks.{Fills}
use Rattle.flash.proofs.Pieces.{Going}
use Rattle.flash.proofs.reader.Flashes.feed.Given as goal

abbrev pub invariant-loop-bytes : goal.invariant-loop-bytes
invariant-loop-bytes g l =
    (goal.iterator-loop-bytes g).can_next l.bytes-iterator
    × (goal.iterator-loop-bytes g).is_finite l.bytes-iterator
    × ((n : ℕ) → n ≤ chunks_size l.bytes-iterator → Fills g.B.Block.places n)
    × Going l.initial.self l.self l.piece (chunks_rest l.bytes-iterator) l.initial.ends l.ends l.count
