use Rattle.std.proofs.Common.{sym, subst, arith}
use Rattle.block.specs.Calls.{First}
use Rattle.doubled.proofs.Answered.{first_none, first_late}
use Rattle.doubled.proofs.first_late.Goals as goal

pub returns-in_err-p : goal.returns-in_err-p
returns-in_err-p g c early long before =
    subst (First _ _ c.args.i) (sym c.from_residual.ensures)
    (first_none g.B.Block.places early (g.B.Block.row c.args.late) long c.args.i _ (omega arith) before c.in_err-p.ensures)

pub returns : goal.returns
returns g c early long before =
    first_late g.B.Block.places early (g.B.Block.row c.args.late) long c.args.i _ (omega arith) before c.in_ok-p.p _ c.in_ok-p.ensures
    c.behind.ensures
