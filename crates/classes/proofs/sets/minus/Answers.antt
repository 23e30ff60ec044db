use Rattle.std.proofs.Common.{◌+◌, not, ◌&&◌, sym, ◌∙◌, ap₂, arith}
use Rattle.block.proofs.Numbers.{bit_and_lem}
use Rattle.classes.proofs.Halves.{of, halves, low_half, high_half}
use Rattle.classes.proofs.sets.minus.Goals as goal

pub returns : goal.returns
returns c =
    let a = c.args.a in
    let b = c.args.b in
    let n = c.complement-b.result in
    halves _ _ (λ v. of a.low a.high v && not (of b.low b.high v))
    (λ v l. bit_and_lem a.low n.low v ∙ ap₂ ◌&&◌ (sym (low_half a.low a.high v l)) (sym (low_half n.low n.high v l) ∙ c.complement-b.ensures v (omega arith)))
    (λ v l. bit_and_lem a.high n.high v ∙ ap₂ ◌&&◌ (sym (high_half a.low a.high v l)) (sym (high_half n.low n.high v l) ∙ c.complement-b.ensures (v + 128) (omega arith)))
