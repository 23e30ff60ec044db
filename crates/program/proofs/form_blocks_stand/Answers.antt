use Rattle.program.proofs.Matched.{first_standing, form_block, line_starts}
use Rattle.program.proofs.form_blocks_stand.Goals as goal

pub returns : goal.returns
returns c = record { first = first_standing; block = form_block; starts = line_starts }
