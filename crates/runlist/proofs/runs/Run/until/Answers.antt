use Rattle.std.proofs.Common.{take, arith}
use Rattle.runlist.proofs.Changes.{rises_more}
use Rattle.runlist.specs.Lists.{kept}
use Rattle.runlist.proofs.runs.Run.until.Goals as goal

pub invariant_of-result : goal.invariant_of-result
invariant_of-result c =
    let r = c.args.self in
    record { within = r.within; before = rises_more 0 _ _ (take r.passed (kept r.list.now)) (omega arith) r.before; behind = omega arith }
