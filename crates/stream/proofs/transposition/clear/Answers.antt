use Rattle.std.proofs.Common.{◌≡◌, arith, length-set}
use Rattle.block.specs.Calls.{none_row}
use Rattle.stream.proofs.Tables.{rows_more}
use Rattle.stream.proofs.transposition.clear.Goals as goal

pub loop-block-preserved : goal.loop-block-preserved
loop-block-preserved g c =
    let t = c.loop-block.block-items in
    let i = c.loop-block.block-index in
    let b = c.none.result in
    let v = c.loop-block.invariant in
    record {
      eight = omega (arith, length-set t i b);
      first = rows_more g.B.Block.row t i b (λ _ r. r ≡ none_row g.B.Block.places) (omega arith) c.none.ensures v.first;
    }
