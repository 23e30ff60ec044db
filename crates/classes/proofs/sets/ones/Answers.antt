use Rattle.std.proofs.Common.{sym, ◌∙◌, arith}
use Rattle.std.proofs.lemmas.Bool.{lt-ltb}
use Rattle.classes.proofs.Halves.{bit_ones, shifted_ones}
use Rattle.classes.proofs.sets.ones.Goals as goal

pub returns-then-n-ge128 : goal.returns-then-n-ge128
returns-then-n-ge128 c v l = bit_ones 128 v ∙ lt-ltb v 128 l ∙ sym (lt-ltb v c.args.n (omega arith))

pub returns : goal.returns
returns c v l = shifted_ones c.args.n v (omega arith)
