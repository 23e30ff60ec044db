use Rattle.std.proofs.Common.{◌∷◌, refl, rules}
use Rattle.grammar.proofs.Going.{stray_at, refuse_wordy}
use Rattle.reader.proofs.Exits.{exits}
use Rattle.reader.proofs.words.word.Goals as goal

pub returns-in_err-w : goal.returns-in_err-w
returns-in_err-w c =
    record { same = search rules; reads = exits _ _ _ _ c.from_residual.ensures.1 (λ w σ b. stray_at (w ∷ σ) refl c.in_err-w.ensures.token.0) }

pub returns-in_default : goal.returns-in_default
returns-in_default c =
    record { same = search rules; reads = λ w σ b. rw c.unexpected.ensures (refuse_wordy _ _ _ _ _ _ _ refl c.in_ok-w.ensures.token refl w σ b c.in_default.not-Word) }
