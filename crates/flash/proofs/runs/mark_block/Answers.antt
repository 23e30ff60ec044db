use Rattle.std.proofs.Common.{◌≡◌, ℕ, ◌^◌, ◌<◌, length, get_or, sym, refl, ap, ◌∙◌, inl, inr, arith}
use native.Mathlib.Decide.{dec_lt}
use Rattle.block.specs.Calls.{answered}
use Rattle.flash.specs.Marks.{before}
use Rattle.flash.proofs.Reaching.{class_bit, complete_bit, lit_within, lit_behind}
use Rattle.flash.proofs.runs.mark_block.Goals as goal

pub returns : goal.returns
returns g c =
    let row = g.B.Block.row in
    let w = g.B.Block.places in
    let wide = g.met.B.Block.wide in
    let bytes = c.args.bytes.now in
    let n = length bytes in
    let carry = c.args.lit in
    let t = c.in_ok-transpose.ensures.2 in
    let byte : (i : ℕ) → get_or bytes i 0 < 2 ^ 8 = λ i. let f = c.type_inv.bytes i in omega arith in
    let samples = c.in_ok-samples.samples in
    let star = c.match_star-reached.ensures.meaning in
    let is = class_bit row w bytes _ c.transpose.new.table t byte c.none.result c.with.result 35 c.none.ensures c.with.ensures samples c.in_ok-samples.ensures.1 in
    let feeds = class_bit row w bytes _ c.transpose.new.table t byte c.none-2.result c.with-2.result 10 c.none-2.ensures c.with-2.ensures c.in_ok-feeds.feeds c.in_ok-feeds.ensures.1 in
    let r = c.reaches in (
      λ p l. complete_bit w (row samples) carry _ _ (wide samples) star bytes is _ _ c.not.ensures c.and-complete.ensures p (omega arith),
      λ p l. feeds p (omega arith),
      elim (dec_lt n (answered w)) [
        | yes l ↦ r.ensures.within l ∙ lit_within w (row samples) carry _ _ (wide samples) star bytes is n refl (omega arith)
        | no l ↦
            let full : w ≡ n = elim c.requires.fills.1 [ inl u ↦ absurd (omega arith) | inr u ↦ sym u ] in
            r.ensures.behind (omega arith) ∙ lit_behind w (row samples) carry _ _ (wide samples) star bytes is ∙ ap (before carry bytes) full
      ],
    )
