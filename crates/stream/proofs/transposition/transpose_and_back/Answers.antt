use Rattle.std.proofs.Common.{arith}
use Rattle.stream.proofs.Backs.{round_trip}
use Rattle.stream.proofs.transposition.transpose_and_back.Goals as goal

pub returns : goal.returns
returns g c =
    let agreed = c.in_ok-agree.ensures in
    let filled = c.in_ok-transpose.ensures in
    let r = round_trip g.B.Block.row g.B.Block.places c.args.bytes.now c.args.buffer.now c.back.new.buffer c.args.table.now c.transpose.new.table
    c.back.result agreed.0 (omega arith) (omega arith) (λ i. let f = c.type_inv.bytes i in omega arith) filled.2 c.back.ensures in
    record { bytes = r.0; table = r.1 }
