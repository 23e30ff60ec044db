use Rattle.std.proofs.Common.{◌∙◌}
use Rattle.stream.proofs.Tables.{held_front}
use Rattle.stream.proofs.transposition.back.Goals as goal

pub returns : goal.returns
returns g c =
    let a = c.in_ok-agree.ensures in
    (a.0, a.1, λ i l. c.write_back.ensures i l ∙ held_front g.B.Block.row c.args.table.now _ i (rw c.unwrap-blocks.ensures at c.first_chunk.ensures.cases).same)
