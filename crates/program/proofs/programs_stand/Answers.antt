use Rattle.program.proofs.Blocks.{program_block}
use Rattle.program.proofs.Falls.{steps_fall, program_ends}
use Rattle.program.proofs.Fitting.{program_fits}
use Rattle.program.proofs.programs_stand.Goals as goal

pub returns : goal.returns
returns c = record { block = program_block; fits = program_fits; fall = steps_fall; end = program_ends }
