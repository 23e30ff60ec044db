use Rattle.std.proofs.Common.{◌∷◌, Some, sym, ap, refl, ◌∙◌, arith}
use Rattle.std.proofs.lemmas.Option.{none-some}
use Rattle.lexer.specs.Tokens.{word}
use Rattle.grammar.proofs.Going.{refuse_word, refuse_number, no_number}
use Rattle.reader.proofs.Parts.{word_on}
use Rattle.reader.proofs.Exits.{exits, lacks, has}
use Rattle.reader.proofs.words.count.Goals as goal
use Rattle.reader.proofs.words.count.Goals.{in_default-via-in-Ok+else-n-least, in_default-via-in_default}

pub returns-in_err-n-clause-reads : goal.returns-in_err-n-clause-reads
returns-in_err-n-clause-reads c =
    let none = lacks c.number.result _ _ c.ok_or.ensures.value c.in_err-n.was in
    exits _ _ _ _ c.from_residual-in_err-n.ensures.1
    (λ w σ b. rw (none.1, c.unexpected.ensures) (refuse_word _ w σ (no_number _ w _ b (λ n e. none-some n (sym none.0 ∙ c.number.ensures ∙ e))) refl c.in_ok-w.ensures.reads refl))

pub returns-in-Ok-clause-reads : goal.returns-in-Ok-clause-reads
returns-in-Ok-clause-reads c =
    let l = c.in_ok-w.ensures.reads in
    let is = has c.number.result _ _ c.ok_or.ensures.value c.in_ok-n.was in
    record { reads = λ us r t. (word _ ∷ us, (_, _, l, t), (_, refl, sym c.number.ensures ∙ is ∙ ap Some (sym c.in-Ok.ensures.1))); least = omega (arith, c.if-n-least.true); most = omega (arith, c.in-Ok.ensures.0, c.in-Ok.ensures.1); on = word_on l }

pub returns-in_default-clause-reads : goal.returns-in_default-clause-reads
returns-in_default-clause-reads c =
    let is = has c.number.result _ _ c.ok_or.ensures.value c.in_ok-n.was in
    λ w σ b.
    refuse_number _ w _ c.in_ok-n.n σ b (sym c.number.ensures ∙ is)
    (λ h. elim c.in_default.branch [
      | in_default-via-in-Ok+else-n-least v ↦ omega (arith, h.0, v.in-Ok.ensures.1, v.if-n-least.false)
      | in_default-via-in_default v ↦ v.in_default.ensures (omega (arith, h.1))
    ])
    refl c.in_ok-w.ensures.reads c.start.ensures
