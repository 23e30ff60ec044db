use Rattle.std.proofs.Common.{◌≡◌, ℕ, ◌+◌, ◌<◌}
use Rattle.block.specs.Rows.{bit_of}
use Rattle.runlist.specs.Changes.{Agree}
use Rattle.runlist.specs.Lists.{lit}
use Rattle.runlist.proofs.builder.Builder.push_byte.Given as goal

abbrev pub invariant-loop-j : goal.invariant-loop-j
invariant-loop-j l =
    (l.self.place ≡ l.initial.self.place + l.j)
    × ((i : ℕ) → i < l.j → lit l.self.list (l.initial.self.place + i) ≡ bit_of l.byte i)
    × Agree l.initial.self.place (lit l.self.list) (lit l.initial.self.list)
