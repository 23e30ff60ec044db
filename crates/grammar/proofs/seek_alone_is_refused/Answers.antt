use Rattle.grammar.proofs.Example.{seek_alone}
use Rattle.grammar.proofs.seek_alone_is_refused.Goals as goal

pub returns : goal.returns
returns c = seek_alone
