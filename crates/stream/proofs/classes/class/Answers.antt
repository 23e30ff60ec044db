use Rattle.std.proofs.Common.{ap, ◌∙◌, arith}
use Rattle.block.proofs.Rows.{tab_ext}
use Rattle.stream.specs.Sets.{has}
use Rattle.stream.specs.Tables.{rows}
use Rattle.stream.proofs.Halves.{class_held}
use Rattle.stream.proofs.Tables.{held_front}
use Rattle.stream.proofs.classes.class.Goals as goal

pub returns : goal.returns
returns g c =
    let row = g.B.Block.row in
    let front = c.unwrap-basis.result.now in
    let first = (rw c.unwrap-basis.ensures at c.first_chunk.ensures.cases).same in (
      omega arith,
      class_held g.B.Block.places c.args.set.low c.args.set.high (rows row front) _ c.halves.ensures
          ∙ tab_ext g.B.Block.places _ _ (λ i l. ap (has c.args.set) (held_front row c.args.table.now front i first)),
    )
