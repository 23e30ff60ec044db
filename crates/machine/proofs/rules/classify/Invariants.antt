use Rattle.std.proofs.Common.{◌≡◌, ℕ, ◌<◌, get_or}
use Rattle.block.specs.Rows.{tab}
use Rattle.stream.specs.Sets.{has}
use Rattle.stream.specs.Tables.{held, rows}
use Rattle.machine.specs.Ruling.{no_set}
use Rattle.machine.proofs.rules.classify.Given as goal

-- the classes before c have their rows
abbrev pub invariant-loop-c : goal.invariant-loop-c
invariant-loop-c g l =
    (k : ℕ) → k < l.c → rows g.B.Block.row l.rows k ≡ tab g.B.Block.places (λ i. has (get_or l.sets k no_set) (held (rows g.B.Block.row l.table) i))
