use Rattle.stream.proofs.Halves.{chosen}
use Rattle.stream.proofs.classes.choose.Goals as goal

pub returns : goal.returns
returns g c = chosen g.B.Block.places _ _ _ _ _ _ c.xor.ensures c.and.ensures c.xor-2.ensures
