use Rattle.std.proofs.Common.{not, sym, ap, ◌∙◌, arith}
use Rattle.runlist.proofs.Changes.{run_bit, run_turn}
use Rattle.runlist.specs.Lists.{kept}
use Rattle.runlist.proofs.Lists.{kept-length}
use Rattle.runlist.specs.Changes.{shown}
use Rattle.runlist.proofs.runs.Run.bit.Goals as goal

pub returns : goal.returns
returns c =
    let r = c.args.self in
    let l = kept r.list.now in
    let many = kept-length r.list.now in
    let odd_is = sym c.is_odd.ensures in
    record {
      within = λ j h u. run_bit 64 l r.list.now.rising r.passed r.place j (omega arith) r.before h (omega arith) ∙ odd_is;
      behind = λ h. ap (shown l) r.behind ∙ run_turn 64 l r.list.now.rising r.passed (omega arith) ∙ ap not odd_is;
    }
