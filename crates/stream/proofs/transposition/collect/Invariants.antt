use Rattle.stream.specs.Tables.{rows}
use Rattle.stream.proofs.Deliveries.{Collected}
use Rattle.stream.proofs.transposition.collect.Given as goal

abbrev pub invariant-loop-j : goal.invariant-loop-j
invariant-loop-j g l = Collected (rows g.B.Block.row l.blocks) l.k l.j l.turned
