use Rattle.std.proofs.Common.{ℕ, ◌+◌, ◌*◌, ap, ◌∙◌, arith}
use Rattle.block.specs.Rows.{bit_of}
use Rattle.stream.specs.Tables.{rows}
use Rattle.stream.proofs.Backs.{filled}
use Rattle.stream.proofs.transposition.write_back.Goals as goal
use Rattle.stream.proofs.transposition.write_back.Goals.{then-i-eq0, else-i-eq0}

pub loop-i-preserved : goal.loop-i-preserved
loop-i-preserved g c =
    filled (rows g.B.Block.row c.args.blocks.now) c.loop-i.i c.if-i-eq0.gathered c.loop-i.buffer (omega arith)
    (λ j n hj hn.
    elim c.if-i-eq0.branch [
      | then-i-eq0 x ↦ ap (λ (y : ℕ). bit_of y (8 * n + j)) x.gathered-is ∙ x.collect-gathered.ensures j n hj hn
      | else-i-eq0 x ↦ ap (λ (y : ℕ). bit_of y (8 * n + j)) x.gathered-is ∙ c.loop-i.invariant.group x.if-i-eq0.false j n hj hn
    ])
    c.loop-i.invariant.done
