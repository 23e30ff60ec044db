use Rattle.report.proofs.Decimals.{decimals_write}
use Rattle.report.proofs.print_end.Goals as goal

pub returns-clause-decimals : goal.returns-clause-decimals
returns-clause-decimals c = decimals_write
