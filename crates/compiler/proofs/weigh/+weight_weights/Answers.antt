use Rattle.std.proofs.Common.{◌+◌, ◌*◌, refl, ap, ◌∙◌}
use Rattle.compiler.specs.Limit.{capped}
use Rattle.tree.proofs.Shapes.{found, found_row, none_stand}
use Rattle.compiler.proofs.Weighed.{quote_weighs, one_weighs, list_weighs, parts_weigh, star_weighs, rep_weighs, row_weighs, not_a_cons}
use Rattle.compiler.proofs.weigh.+weight_weights.Goals as goal

pub weight-returns-in-Quote-clause-value : goal.weight-returns-in-Quote-clause-value
weight-returns-in-Quote-clause-value t c =
    λ f h. c.quoted.ensures ∙ ap (λ v. capped (1 + v)) c.saturating_sub.ensures ∙ quote_weighs _ _ (found _ _ _ _ f c.in-Quote.is c.in-Some.ensures.value h)

pub weight-returns-in-Set-clause-value : goal.weight-returns-in-Set-clause-value
weight-returns-in-Set-clause-value t c = λ f h. one_weighs c.in-Set.is (found _ _ _ _ f refl c.in-Some.ensures.value h)

pub weight-returns-in-Seq-clause-value : goal.weight-returns-in-Seq-clause-value
weight-returns-in-Seq-clause-value t c =
    λ f h. c.capped-in-Seq.ensures ∙ parts_weigh _ _ c.in-Seq.is c.weights.ensures.value (found _ _ _ _ f refl c.in-Some.ensures.value h)

pub weight-returns-in-Star-clause-value : goal.weight-returns-in-Star-clause-value
weight-returns-in-Star-clause-value t c =
    λ f h. c.capped.ensures ∙ star_weighs _ _ (found _ _ _ _ f c.in-Star.is c.in-Some.ensures.value h) c.weight.ensures.value

pub weight-returns-in-Rep-clause-value : goal.weight-returns-in-Rep-clause-value
weight-returns-in-Rep-clause-value t c =
    λ f h. c.capped-in-Rep.ensures ∙ ap (λ v. capped (1 + v * c.weight-in-Rep.result)) c.from.ensures ∙ rep_weighs _ _ _ _ (found _ _ _ _ f c.in-Rep.is c.in-Some.ensures.value h) c.weight-in-Rep.ensures.value

pub weight-returns-in-Nil-clause-value : goal.weight-returns-in-Nil-clause-value
weight-returns-in-Nil-clause-value t c = λ f h. list_weighs c.in-Nil.is (found _ _ _ _ f refl c.in-Some.ensures.value h)

pub weights-returns-in_default-clause-value : goal.weights-returns-in_default-clause-value
weights-returns-in_default-clause-value t c = λ fs h. absurd (none_stand _ _ fs c.in_default.ensures.value h)

pub weights-returns-in-Cons-clause-value : goal.weights-returns-in-Cons-clause-value
weights-returns-in-Cons-clause-value t c =
    λ fs h. c.capped.ensures ∙ row_weighs _ _ _ _ (found_row _ _ _ _ fs c.in-Cons.is c.in-Some.ensures.value h) c.weight.ensures.value c.weights.ensures.value

pub weights-returns-in_default-node-clause-value : goal.weights-returns-in_default-node-clause-value
weights-returns-in_default-node-clause-value t c =
    λ fs h. not_a_cons (found_row _ _ _ _ fs refl c.in-Some.ensures.value h) c.in_default-node.not-Cons
