use Rattle.std.proofs.Common.{◌∙◌, arith}
use Rattle.runlist.proofs.Changes.{Ran, run_hit, run_stay}
use Rattle.runlist.specs.Lists.{kept}
use Rattle.runlist.proofs.Lists.{kept-length}
use Rattle.runlist.proofs.runs.Cursor.run.Goals as goal
use Rattle.runlist.proofs.runs.Cursor.run.Goals.{Joined-change-self, then-change-self, else-change-self}

ran : (c : Joined-change-self) → Ran 64 (kept c.args.self.list.now) c.args.self.list.now.rising c.if-change-self.passed c.args.self.place
ran c =
    let w = c.args.self in
    let many = kept-length w.list.now in
    elim c.if-change-self.branch [
      | then-change-self x ↦ run_hit 64 (kept w.list.now) w.list.now.rising w.passed _ w.place (omega arith) c.requires (omega arith) x.passed-is
      | else-change-self x ↦ run_stay 64 (kept w.list.now) w.list.now.rising w.passed _ w.place (omega arith) c.requires w.before w.behind (λ e. x.if-change-self.false (c.change.ensures ∙ e)) x.passed-is
    ]

pub invariant_of-result : goal.invariant_of-result
invariant_of-result c =
    let w = c.args.self in
    let many = kept-length w.list.now in
    let r = ran (goal.at.invariant_of-result c).Joined-change-self in
    record {
      within = omega (arith, r.within);
      some = omega (arith, r.some, c.change-2.ensures);
      ends = omega (arith, r.ends, c.change-2.ensures);
      before = r.before;
      behind = c.change-2.ensures;
    }
