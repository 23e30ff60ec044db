use Rattle.std.proofs.Common.{◌≡◌, ◌-◌, Bool}
use Rattle.block.specs.Sums.{over}
use Rattle.runlist.specs.Changes.{Agree}
use Rattle.runlist.specs.Lists.{lit}
use Rattle.runlist.specs.Merged.{Computes, merged}
use Rattle.runlist.proofs.merge.Given as goal

abbrev pub invariant-loop-builder : goal.invariant-loop-builder
invariant-loop-builder g l =
    let x = lit l.initial.left.list.now in
    let y = lit l.initial.right.list.now in
    (l.left.list.now ≡ l.initial.left.list.now)
    × (l.right.list.now ≡ l.initial.right.list.now)
    × (l.left.place ≡ l.builder.place)
    × (l.right.place ≡ l.builder.place)
    × (l.carry ≡ over x y l.enter l.builder.place)
    × ((f : Bool → Bool → Bool → Bool) → Computes (goal.F-post g l.make) f → Agree l.builder.place (lit l.builder.list) (merged f x y l.enter))

abbrev pub decreases-loop-builder : goal.decreases-loop-builder
decreases-loop-builder g l = 64 - l.builder.place
