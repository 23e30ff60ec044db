use Rattle.std.proofs.Common.{◌≡◌, ℕ, ◌+◌, ◌-◌, ◌<◌, ◌≤◌}
use Rattle.runlist.specs.Changes.{Agree}
use Rattle.runlist.specs.Lists.{lit}
use Rattle.runlist.proofs.builder.Builder.copy.Given as goal

abbrev pub invariant-loop-cursor : goal.invariant-loop-cursor
invariant-loop-cursor l =
    (l.cursor.list.now ≡ l.initial.cursor.list.now)
    × (l.initial.cursor.place ≤ l.cursor.place)
    × (l.cursor.place ≤ l.end)
    × (l.self.place ≡ l.initial.self.place + (l.cursor.place - l.initial.cursor.place))
    × ((i : ℕ)
    → l.initial.cursor.place + i < l.cursor.place
    → lit l.self.list (l.initial.self.place + i) ≡ lit l.initial.cursor.list.now (l.initial.cursor.place + i))
    × Agree l.initial.self.place (lit l.self.list) (lit l.initial.self.list)

abbrev pub decreases-loop-cursor : goal.decreases-loop-cursor
decreases-loop-cursor l = l.end - l.cursor.place
