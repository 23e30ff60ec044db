use Rattle.std.proofs.Common.{refl}
use Rattle.machine.proofs.Ready.{fresh}
use Rattle.machine.proofs.loaded.Matcher.rewind.Goals as goal

pub returns-clause-matched : goal.returns-clause-matched
returns-clause-matched c F R = fresh F _ record { compiled = R.compiled; nested = R.nested } c.forget.ensures.entering refl
