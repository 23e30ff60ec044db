use Rattle.runlist.proofs.Changes.{keeps_changes_lem}
use Rattle.runlist.proofs.keeps_changes.Goals as goal

pub returns : goal.returns
returns c = keeps_changes_lem
