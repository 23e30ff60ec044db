use Rattle.form.proofs.Existing.{ends_exist, ends_unique}
use Rattle.form.proofs.ends_stand.Goals as goal

pub returns : goal.returns
returns c = record { exist = ends_exist; unique = ends_unique }
