use Rattle.std.proofs.Common.{◌*◌, ◌/◌, ◌^◌, Bool, List, sym, ◌∙◌, subst, arith, length-set}
use lib.Bits.{bit_and}
use Rattle.block.specs.Calls.{Put}
use Rattle.stream.specs.Tables.{rows}
use Rattle.stream.proofs.Deliveries.{Stamped, stamped}
use Rattle.stream.proofs.Tables.{rows_get, rows_other, rows_more}
use Rattle.stream.proofs.transposition.deliver.Goals as goal

pub loop-j-preserved : goal.loop-j-preserved
loop-j-preserved g c =
    let row = g.B.Block.row in
    let w = g.B.Block.places in
    let t = c.loop-j.blocks in
    let j = c.loop-j.j in
    let v = c.loop-j.invariant in
    let b = c.put.result in
    let k = c.args.k in
    let was = sym (rows_get row t j c.index-blocks-j.result (omega arith)) ∙ v.left j (omega arith) in
    let put = subst (λ (old : List Bool). Put w old k (bit_and (c.spread-turned.result / 2 ^ (8 * j)) 255) (row b)) was c.put.ensures in
    record {
      eight = omega (arith, length-set t j b);
      done = rows_more row t j b (λ i r. Stamped k c.args.gathered i (rows row c.args.blocks.now i) r) (omega arith)
          (stamped w k c.args.gathered c.spread-turned.result j _ _ c.requires (omega arith) c.spread-turned.ensures put) v.done;
      left = λ i l. rows_other row t j b i (λ e. omega arith) ∙ v.left i (omega arith);
    }
