use Rattle.std.proofs.Common.{not, sym, ap, ◌∙◌, arith}
use Rattle.classes.proofs.Halves.{of, halves, low_half, high_half, bit_not}
use Rattle.classes.proofs.sets.complement.Goals as goal

pub returns : goal.returns
returns c =
    let a = c.args.a in
    halves _ _ (λ v. not (of a.low a.high v))
    (λ v l. bit_not a.low v (omega arith) l ∙ sym (ap not (low_half a.low a.high v l)))
    (λ v l. bit_not a.high v (omega arith) l ∙ sym (ap not (high_half a.low a.high v l)))
