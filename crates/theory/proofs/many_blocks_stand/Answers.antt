use Rattle.theory.proofs.Whole.{first_border, next_block, many_blocks}
use Rattle.theory.proofs.many_blocks_stand.Goals as goal

pub returns : goal.returns
returns c = record { first = first_border; next = next_block; many = many_blocks }
