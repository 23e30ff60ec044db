use Rattle.block.specs.Rows.{bit_of}
use Rattle.stream.proofs.Swaps.{spread_bits}
use Rattle.stream.proofs.spread.spread.Goals as goal

pub returns : goal.returns
returns c =
    spread_bits (bit_of c.args.x) (bit_of c.swap-pairs.result) (bit_of c.swap-fours.result) (bit_of c.swap.result) c.swap-pairs.ensures c.swap-fours.ensures
    c.swap.ensures
