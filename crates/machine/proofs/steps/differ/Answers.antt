use Rattle.std.proofs.Common.{◌∙◌}
use Rattle.machine.proofs.Differ.{differs}
use Rattle.machine.proofs.steps.differ.Goals as goal

pub returns : goal.returns
returns g c =
    let row = g.B.Block.row in
    let wide = g.met.B.Block.wide in
    c.is_some.ensures
    ∙ differs g.B.Block.places c.requires (row c.args.left) (row c.args.right) (row c.xor.result) (wide c.args.left)
    (wide c.args.right) c.xor.ensures c.first.result c.first.ensures
