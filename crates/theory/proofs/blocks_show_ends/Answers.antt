use Rattle.theory.proofs.Shown.{open_blocks, closing_blocks}
use Rattle.theory.proofs.blocks_show_ends.Goals as goal

pub returns : goal.returns
returns c = record { running = open_blocks; closed = closing_blocks }
