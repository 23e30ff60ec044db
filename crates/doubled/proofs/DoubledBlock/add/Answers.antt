use Rattle.doubled.proofs.Halves.{added}
use Rattle.doubled.proofs.DoubledBlock.add.Goals as goal

pub returns : goal.returns
returns g c =
    let r = g.B.Block.row in
    let wide = g.met.B.Block.wide in
    let s = c.args.self in
    let o = c.args.other in
    added g.B.Block.places (r s.early) (r o.early) (r s.late) (r o.late) (wide s.early) (wide o.early) c.args.enter _ _ _ _
    (wide c.add-early.result.0) c.add-early.ensures c.add-late.ensures
