use Rattle.theory.proofs.Written.{written_matches, written_blocks}
use Rattle.theory.proofs.written_forms_stand.Goals as goal

pub returns : goal.returns
returns c = record { matches = written_matches; blocks = written_blocks }
