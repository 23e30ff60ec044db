use Rattle.std.proofs.Common.{map, take}
use Rattle.form.specs.Positions.{only}
use Rattle.classes.specs.Numbered.{Adds}
use Rattle.classes.proofs.table.ClassTable.quote.Given as goal

abbrev pub invariant-loop-byte : goal.invariant-loop-byte
invariant-loop-byte l = Adds l.initial.self l.self (map only (take l.byte-index l.bytes))
