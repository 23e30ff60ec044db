use Rattle.std.proofs.Common.{◌≡◌, ap, ◌∙◌, subst, arith}
use Rattle.std.proofs.lemmas.List.{get_or_default}
use Rattle.machine.specs.Carrying.{entering, no_carry}
use Rattle.machine.proofs.Carrying.{left_put}
use Rattle.machine.proofs.carries.Carries.through.Goals as goal

pub returns-clause-leaving : goal.returns-clause-leaving
returns-clause-leaving g c =
    let bits = c.args.self.now.bits.items in
    let read : c.index.result.now.enter ≡ entering c.args.self.now c.args.k =
    ap (λ x. x.enter) (c.index.ensures ∙ get_or_default bits c.args.k _ no_carry (omega arith)) in (
      c.step-marks.result.1,
      subst (λ e. g.F.FnOnce.post c.args.step (e, tt) c.step-marks.result) read c.step-marks.ensures,
      left_put bits c.args.k _ (omega arith),
    )
