use Rattle.runlist.proofs.Changes.{odd_test}
use Rattle.runlist.proofs.runs.is_odd.Goals as goal

pub returns : goal.returns
returns c = odd_test c.args.n
