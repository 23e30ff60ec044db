use Rattle.form.proofs.Positions.{positions_agree_lem}
use Rattle.form.proofs.positions_agree.Goals as goal

pub returns : goal.returns
returns c = positions_agree_lem
