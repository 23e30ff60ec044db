use Rattle.std.proofs.Common.{Bool, List, sym, subst, arith}
use Rattle.block.specs.Calls.{Read}
use Rattle.stream.specs.Tables.{rows}
use Rattle.stream.proofs.Deliveries.{collected}
use Rattle.stream.proofs.Tables.{rows_get}
use Rattle.stream.proofs.transposition.collect.Goals as goal

pub loop-j-preserved : goal.loop-j-preserved
loop-j-preserved g c =
    let row = g.B.Block.row in
    let t = c.args.blocks.now in
    let is = sym (rows_get row t c.loop-j.j c.index-blocks-j.result (omega arith)) in
    collected g.B.Block.places c.args.k c.loop-j.j c.loop-j.turned c.read.result (rows row t) c.requires (omega arith) c.read.type_inv
    (subst (λ (r : List Bool). Read g.B.Block.places r c.args.k c.read.result) is c.read.ensures) c.loop-j.invariant
