use Rattle.stream.proofs.Swaps.{swap_bits}
use Rattle.stream.proofs.spread.swap.Goals as goal

pub returns : goal.returns
returns c = swap_bits c.args.x c.args.step c.args.mask
