use Rattle.stream.proofs.Stars.{examples}
use Rattle.stream.proofs.star.match_star_examples.Goals as goal

pub returns : goal.returns
returns c = examples
