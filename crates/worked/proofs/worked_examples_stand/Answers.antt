use Rattle.worked.proofs.Rows.{rows}
use Rattle.worked.proofs.worked_examples_stand.Goals as goal

pub returns : goal.returns
returns c = rows c.match_star_examples.ensures c.seek_alone_is_refused.ensures c.worked_recordings_stand.ensures
