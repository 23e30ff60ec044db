use Rattle.std.proofs.Common.{◌∷◌, refl, rules}
use Rattle.grammar.proofs.Wants.{top}
use Rattle.grammar.proofs.Going.{stray_at, refuse_top}
use Rattle.reader.proofs.Exits.{exits}
use Rattle.reader.proofs.words.open.Goals as goal

pub returns-in_err-next : goal.returns-in_err-next
returns-in_err-next c =
    record { same = search rules; reads = exits _ _ _ _ c.from_residual.ensures.1 (λ σ. stray_at (top ∷ σ) refl c.in_err-next.ensures.token.0) }

pub returns-in_default : goal.returns-in_default
returns-in_default c =
    record { same = search rules; reads = λ σ. rw c.unexpected.ensures (refuse_top _ _ _ _ _ _ _ refl c.in_ok-next.ensures.token refl σ c.in_default.not-Open) }
