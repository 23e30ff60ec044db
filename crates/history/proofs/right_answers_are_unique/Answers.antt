use Rattle.history.proofs.Once.{right_once}
use Rattle.history.proofs.right_answers_are_unique.Goals as goal

pub returns : goal.returns
returns c = right_once
