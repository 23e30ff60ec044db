use Rattle.form.proofs.Worked.{worked}
use Rattle.form.proofs.worked_recordings_stand.Goals as goal

pub returns : goal.returns
returns c = worked
