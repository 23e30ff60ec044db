use Rattle.block.specs.Calls.{First}
use Rattle.conform.proofs.check_firsts.Given as goal

abbrev pub invariant-loop-i : goal.invariant-loop-i
invariant-loop-i g l = First g.B.Block.places (g.B.Block.row l.block) l.i l.want
