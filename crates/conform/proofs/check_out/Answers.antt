use Rattle.std.proofs.Common.{true, false, not, ap, ◌∙◌}
use Rattle.std.specs.Cmp.{booleans_Decides}
use Rattle.block.proofs.Rows.{wrong}
use Rattle.conform.proofs.Passes.{fallen_of, carried_out}
use Rattle.conform.proofs.check_out.Goals as goal

pub returns-in_err-expect : goal.returns-in_err-expect
returns-in_err-expect g c =
    wrong (c.in_err-expect.ensures.passed ∙ fallen_of g.B.Block.places _ true c.args.enter _ _ g.met.B.Block.some c.all.ensures c.advance-one.ensures)

pub returns-in_err-expect-2 : goal.returns-in_err-expect-2
returns-in_err-expect-2 g c =
    wrong
    (c.in_err-expect-2.ensures.passed
    ∙ ap not (fallen_of g.B.Block.places _ false c.args.enter _ _ g.met.B.Block.some c.none.ensures c.advance-zero.ensures))

pub returns : goal.returns
returns g c =
    let same = carried_out g.B.Block.places _ _ c.args.enter _ _ (g.met.B.Block.wide c.add-carry.result.0) c.all-2.ensures c.none-2.ensures c.add-carry.ensures in
    c.expect-3.ensures.passed ∙ (booleans_Decides c.add-carry.result.1 c.args.enter).1 same
