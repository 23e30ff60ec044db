use Rattle.machine.proofs.Found.{form_fits}
use Rattle.machine.proofs.runs.forms_fit.Goals as goal

pub returns : goal.returns
returns c = form_fits
