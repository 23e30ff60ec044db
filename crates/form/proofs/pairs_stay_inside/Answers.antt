use Rattle.form.proofs.Inside.{pairs_inside}
use Rattle.form.proofs.pairs_stay_inside.Goals as goal

pub returns : goal.returns
returns c = pairs_inside
