use Rattle.history.proofs.Follows.{law_follows_lem}
use Rattle.history.proofs.law_follows.Goals as goal

pub returns : goal.returns
returns c = law_follows_lem
