use Rattle.lexer.proofs.Runs.{cut_runs}
use Rattle.lexer.proofs.run_end.Goals as goal

pub returns : goal.returns
returns c = cut_runs _ _ _ _ c.requires c.count.ensures
