use Rattle.doubled.proofs.Answered.{read_early, read_late}
use Rattle.doubled.proofs.DoubledBlock.read.Goals as goal

pub returns-in-Some-Early : goal.returns-in-Some-Early
returns-in-Some-Early g c =
    let r = g.B.Block.row in
    let s = c.args.self in
    let at = rw c.in-Some-Early.field-0-is at c.in-Some-Early.ensures in
    read_early g.B.Block.places (r s.early) (r s.late) (g.met.B.Block.wide s.early) c.args.k c.in-Some-Early.n _ at c.read.ensures

pub returns-in-Some-Late : goal.returns-in-Some-Late
returns-in-Some-Late g c =
    let r = g.B.Block.row in
    let s = c.args.self in
    let at = rw c.in-Some-Late.field-0-is at c.in-Some-Late.ensures in
    read_late g.B.Block.places (r s.early) (r s.late) (g.met.B.Block.wide s.early) c.args.k _ _ at c.read-in-Some-Late.ensures
