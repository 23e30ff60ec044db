use Rattle.doubled.proofs.Answered.{put_early, put_late}
use Rattle.doubled.proofs.DoubledBlock.put.Goals as goal

pub returns-in-Some-Early : goal.returns-in-Some-Early
returns-in-Some-Early g c =
    let r = g.B.Block.row in
    let wide = g.met.B.Block.wide in
    let s = c.args.self in
    let at = rw c.in-Some-Early.field-0-is at c.in-Some-Early.ensures in
    put_early g.B.Block.places (r s.early) (r s.late) (wide s.early) c.args.k c.in-Some-Early.n c.args.byte at _ (wide c.put.result) c.put.ensures

pub returns-in-Some-Late : goal.returns-in-Some-Late
returns-in-Some-Late g c =
    let r = g.B.Block.row in
    let s = c.args.self in
    let at = rw c.in-Some-Late.field-0-is at c.in-Some-Late.ensures in
    put_late g.B.Block.places (r s.early) (r s.late) (g.met.B.Block.wide s.early) c.args.k _ c.args.byte at _ c.put-in-Some-Late.ensures
