use Rattle.doubled.proofs.Halves.{advanced}
use Rattle.doubled.proofs.DoubledBlock.advance.Goals as goal

pub returns : goal.returns
returns g c =
    let r = g.B.Block.row in
    let m = g.met.B.Block in
    let s = c.args.self in
    advanced g.B.Block.places (r s.early) (r s.late) (m.wide s.early) m.some c.args.enter _ _ _ _ c.advance-early.ensures
    c.advance-late.ensures
