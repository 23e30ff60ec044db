use Rattle.std.proofs.Common.{◌≡◌, ℕ, ◌+◌, ◌-◌, ◌<◌, ◌≤◌, false}
use Rattle.block.specs.Rows.{bit_of}
use Rattle.runlist.specs.Lists.{lit}
use Rattle.runlist.proofs.list.RunList.byte_at.Given as goal

abbrev pub invariant-loop-cursor : goal.invariant-loop-cursor
invariant-loop-cursor l =
    (l.cursor.list.now ≡ l.initial.cursor.list.now)
    × (l.group ≤ l.cursor.place)
    × (l.cursor.place ≤ l.group + 8)
    × ((j : ℕ) → l.group + j < l.cursor.place → bit_of l.byte j ≡ lit l.initial.cursor.list.now (l.group + j))
    × ((j : ℕ) → l.cursor.place ≤ l.group + j → bit_of l.byte j ≡ false)

abbrev pub decreases-loop-cursor : goal.decreases-loop-cursor
decreases-loop-cursor l = l.group + 8 - l.cursor.place
