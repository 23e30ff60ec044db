use Rattle.std.proofs.Common.{◌-◌, ◌∷◌, refl, rules}
use Rattle.grammar.proofs.Wants.{least, most}
use Rattle.grammar.specs.Grammar.{largest}
use Rattle.grammar.proofs.Going.{beyond, past_least, least_numeric, most_numeric}
use Rattle.reader.proofs.Exits.{exits}
use Rattle.reader.proofs.words.counts.Goals as goal

pub returns-in_err-least : goal.returns-in_err-least
returns-in_err-least c =
    record { same = search rules; reads = exits _ _ _ _ c.from_residual.ensures.1 (λ d σ. c.in_err-least.ensures.reads (least d) σ (least_numeric d)) }

pub returns-in_err-most : goal.returns-in_err-most
returns-in_err-most c =
    let a = c.in_ok-least.ensures.reads in
    record { same = search rules; reads = exits _ _ _ _ c.from_residual-in_err-most.ensures.1 (λ d σ. beyond _ (least d ∷ σ) (most d (largest - c.in_ok-least.least) ∷ σ) _ (past_least d _ σ a.most) refl a.reads c.in_ok-least.ensures.same (c.in_err-most.ensures.reads (most d (largest - c.in_ok-least.least)) σ (most_numeric d _ a.most))) }
