use Rattle.stream.proofs.Packs.{Turned}
use Rattle.stream.proofs.transposition.fill.Given as goal

abbrev pub invariant-loop-i : goal.invariant-loop-i
invariant-loop-i g l = Turned g.B.Block.row g.B.Block.places l.bytes l.i l.blocks l.gathered
