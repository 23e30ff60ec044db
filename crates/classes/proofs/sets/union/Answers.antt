use Rattle.std.proofs.Common.{◌||◌, sym, ◌∙◌, ap₂}
use Rattle.block.proofs.Numbers.{bit_or_lem}
use Rattle.classes.proofs.Halves.{of, halves, low_half, high_half}
use Rattle.classes.proofs.sets.union.Goals as goal

pub returns : goal.returns
returns c =
    let a = c.args.a in
    let b = c.args.b in
    halves _ _ (λ v. of a.low a.high v || of b.low b.high v)
    (λ v l. bit_or_lem a.low b.low v ∙ sym (ap₂ ◌||◌ (low_half a.low a.high v l) (low_half b.low b.high v l)))
    (λ v l. bit_or_lem a.high b.high v ∙ sym (ap₂ ◌||◌ (high_half a.low a.high v l) (high_half b.low b.high v l)))
