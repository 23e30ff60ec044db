use Rattle.std.proofs.Common.{◌≡◌, ◌<◌, ◌≤◌, ◌⊎◌, ◌∙◌, inl, inr, arith}
use Rattle.block.specs.Calls.{none_row}
use Rattle.stream.proofs.Tables.{rows_other, rows_more}
use Rattle.machine.proofs.Lending.{lent_on}
use Rattle.machine.proofs.Writes.{rows_written}
use Rattle.machine.proofs.runs.Program.clear.Goals as goal

pub loop-r-preserved : goal.loop-r-preserved
loop-r-preserved g c =
    let row = g.B.Block.row in
    let old = c.loop-r.registers.blocks.now in
    let new = c.put.new.self.blocks.now in
    let r = c.loop-r.r in
    let first = c.args.self.now.stars.start in
    let v = c.loop-r.invariant in
    let size = c.requires in
    let within = c.args.self.now.within in
    let lent = v.2 in
    let at = rows_written row old new r c.none.result c.put.ensures.value in (
      λ j l u.
          at j
          ∙ rows_more row old r c.none.result (λ k b. first ≤ k → b ≡ none_row g.B.Block.places) (omega arith) (λ _. c.none.ensures)
          (λ k h f. v.0 k f h) j u l,
      λ j o.
          let apart : (j < first) ⊎ (r < j) = elim o [ inl h ↦ inl h | inr h ↦ inr (omega arith) ] in
          let other : (j < first) ⊎ (r ≤ j) = elim o [ inl h ↦ inl h | inr h ↦ inr (omega arith) ] in
          let _from = c.loop-r.auto.r in
          at j ∙ (rows_other row old r c.none.result j (λ e. elim apart [ inl h ↦ omega arith | inr h ↦ omega arith ]) ∙ v.1 j other),
      lent_on v.2 c.put.ensures.lent,
    )
