use Rattle.stream.specs.Tables.{rows}
use Rattle.stream.proofs.Backs.{Filled}
use Rattle.stream.proofs.transposition.write_back.Given as goal

abbrev pub invariant-loop-i : goal.invariant-loop-i
invariant-loop-i g l = Filled (rows g.B.Block.row l.blocks) l.i l.gathered l.buffer
