use Rattle.stream.proofs.Tables.{transposed}
use Rattle.stream.proofs.transposition.transpose.Goals as goal

pub returns : goal.returns
returns g c =
    let a = c.in_ok-agree.ensures in
    let e = c.fill.ensures in
    (a.0, a.1, transposed g.B.Block.row g.B.Block.places c.args.bytes.now c.args.table.now c.fill.new.blocks e.eight e.first)
