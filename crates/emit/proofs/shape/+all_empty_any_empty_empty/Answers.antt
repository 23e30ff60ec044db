use Rattle.std.proofs.Common.{◌&&◌, ◌||◌, sym, refl, ap, ◌∙◌, ⊎_elim, arith}
use Rattle.std.proofs.lemmas.Bool.{eq-eqb, lt-leb}
use Rattle.tree.proofs.Shapes.{found, found_row, none_stand, no_nil, no_cons}
use Rattle.emit.proofs.Shaped.{quote_empties, set_empties, out_empties, seq_empties, or_empties, star_empties, start_empties, end_empties, none_empties, some_empties, falling_empties, all_cons, any_cons, all_first, any_first, all_rest, any_rest}
use Rattle.emit.proofs.shape.+all_empty_any_empty_empty.Goals as goal

pub all_empty-returns-in_default : goal.all_empty-returns-in_default
all_empty-returns-in_default t c fs n h = absurd (none_stand _ _ fs c.in_default.ensures.value h)

pub all_empty-returns-then-empty : goal.all_empty-returns-then-empty
all_empty-returns-then-empty t c fs n h = sym (ap (λ b. b && c.all_empty.result) c.if-empty.true) ∙ all_cons n _ _ _ _ (found_row _ _ _ _ fs c.in-Cons.is c.in-Some.ensures.value h) c.empty.ensures c.all_empty.ensures

pub all_empty-returns-else-empty : goal.all_empty-returns-else-empty
all_empty-returns-else-empty t c fs n h = all_first n _ _ _ (found_row _ _ _ _ fs c.in-Cons.is c.in-Some.ensures.value h) c.empty.ensures c.if-empty.false

pub all_empty-returns-in_default-node : goal.all_empty-returns-in_default-node
all_empty-returns-in_default-node t c fs n h = all_rest n (found_row _ _ _ _ fs refl c.in-Some.ensures.value h) c.in_default-node.not-Cons

pub any_empty-returns-in_default : goal.any_empty-returns-in_default
any_empty-returns-in_default t c fs n h = absurd (none_stand _ _ fs c.in_default.ensures.value h)

pub any_empty-returns-then-empty : goal.any_empty-returns-then-empty
any_empty-returns-then-empty t c fs n h = any_first n _ _ _ (found_row _ _ _ _ fs c.in-Cons.is c.in-Some.ensures.value h) c.empty.ensures c.if-empty.true

pub any_empty-returns-else-empty : goal.any_empty-returns-else-empty
any_empty-returns-else-empty t c fs n h = sym (ap (λ b. b || c.any_empty.result) c.if-empty.false) ∙ any_cons n _ _ _ _ (found_row _ _ _ _ fs c.in-Cons.is c.in-Some.ensures.value h) c.empty.ensures c.any_empty.ensures

pub any_empty-returns-in_default-node : goal.any_empty-returns-in_default-node
any_empty-returns-in_default-node t c fs n h = any_rest n (found_row _ _ _ _ fs refl c.in-Some.ensures.value h) c.in_default-node.not-Cons

pub empty-returns-in-Quote : goal.empty-returns-in-Quote
empty-returns-in-Quote t c f n h = quote_empties n _ _ _ (found _ _ _ _ f c.in-Quote.is c.in-Some.ensures.value h) c.saturating_sub.ensures

pub empty-returns-in-Set : goal.empty-returns-in-Set
empty-returns-in-Set t c f n h =
    ⊎_elim (λ is. set_empties n _ _ (found _ _ _ _ f is.2 c.in-Some.ensures.value h))
    (λ is. out_empties n _ _ (found _ _ _ _ f is.2 c.in-Some.ensures.value h)) c.in-Set.is

pub empty-returns-in-Seq : goal.empty-returns-in-Seq
empty-returns-in-Seq t c f n h = seq_empties n _ _ (found _ _ _ _ f c.in-Seq.is c.in-Some.ensures.value h) c.all_empty.ensures

pub empty-returns-in-Or : goal.empty-returns-in-Or
empty-returns-in-Or t c f n h = or_empties n _ _ (found _ _ _ _ f c.in-Or.is c.in-Some.ensures.value h) c.any_empty.ensures

pub empty-returns-in-Star : goal.empty-returns-in-Star
empty-returns-in-Star t c f n h = star_empties n _ (found _ _ _ _ f c.in-Star.is c.in-Some.ensures.value h)

pub empty-returns-then-least-eq0 : goal.empty-returns-then-least-eq0
empty-returns-then-least-eq0 t c f n h = eq-eqb _ 0 (omega arith) ∙ none_empties n _ _ _ (found _ _ _ _ f c.in-Rep.is c.in-Some.ensures.value h) (omega arith) (omega arith)

pub empty-returns-else-least-eq0 : goal.empty-returns-else-least-eq0
empty-returns-else-least-eq0 t c f n h = some_empties n _ _ _ _ (found _ _ _ _ f c.in-Rep.is c.in-Some.ensures.value h) (omega arith) (λ z. omega arith) c.empty.ensures

pub empty-returns-else-least-most : goal.empty-returns-else-least-most
empty-returns-else-least-most t c f n h = lt-leb _ _ (omega arith) ∙ falling_empties n _ _ _ (found _ _ _ _ f c.in-Rep.is c.in-Some.ensures.value h) (omega arith)

pub empty-returns-in-Start : goal.empty-returns-in-Start
empty-returns-in-Start t c f n h =
    ⊎_elim (λ is. start_empties n (found _ _ _ _ f is c.in-Some.ensures.value h))
    (λ is. end_empties n (found _ _ _ _ f is c.in-Some.ensures.value h)) c.in-Start.is

pub empty-returns-in-Nil : goal.empty-returns-in-Nil
empty-returns-in-Nil t c f n h =
    ⊎_elim (λ is. absurd (no_nil (found _ _ _ _ f is c.in-Some.ensures.value h)))
    (λ is. absurd (no_cons _ _ (found _ _ _ _ f is.2 c.in-Some.ensures.value h))) c.in-Nil.is
