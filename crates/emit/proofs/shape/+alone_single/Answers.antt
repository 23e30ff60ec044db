use Rattle.std.proofs.Common.{◌&&◌, ◌||◌, sym, refl, ap, ◌∙◌, ⊎_elim}
use Rattle.tree.proofs.Shapes.{found, found_row, none_stand, no_nil, no_cons}
use Rattle.emit.proofs.Shaped.{quote_single, set_single, out_single, seq_single, or_single, or_none, star_single, start_single, end_single, rep_single, alone_cons, alone_more, alone_rest, falls_test}
use Rattle.emit.proofs.shape.+alone_single.Goals as goal

pub alone-returns-in_default : goal.alone-returns-in_default
alone-returns-in_default t c fs n h = absurd (none_stand _ _ fs c.in_default.ensures.value h)

pub alone-returns-then-no_form : goal.alone-returns-then-no_form
alone-returns-then-no_form t c fs n h = sym (ap (λ b. b && c.single.result) c.if-no_form.true) ∙ alone_cons n _ _ _ _ (found_row _ _ _ _ fs c.in-Cons.is c.in-Some.ensures.value h) c.no_form.ensures c.single.ensures

pub alone-returns-else-no_form : goal.alone-returns-else-no_form
alone-returns-else-no_form t c fs n h = alone_more n _ _ (found_row _ _ _ _ fs c.in-Cons.is c.in-Some.ensures.value h) _ c.no_form.ensures c.if-no_form.false

pub alone-returns-in_default-node : goal.alone-returns-in_default-node
alone-returns-in_default-node t c fs n h = alone_rest n (found_row _ _ _ _ fs refl c.in-Some.ensures.value h) c.in_default-node.not-Cons

pub single-returns-in-Quote : goal.single-returns-in-Quote
single-returns-in-Quote t c f n h = quote_single n _ _ _ (found _ _ _ _ f c.in-Quote.is c.in-Some.ensures.value h) c.saturating_sub.ensures

pub single-returns-in-Set : goal.single-returns-in-Set
single-returns-in-Set t c f n h =
    ⊎_elim (λ is. set_single n _ _ (found _ _ _ _ f is.2 c.in-Some.ensures.value h))
    (λ is. out_single n _ _ (found _ _ _ _ f is.2 c.in-Some.ensures.value h)) c.in-Set.is

pub single-returns-in-Seq : goal.single-returns-in-Seq
single-returns-in-Seq t c f n h = seq_single n _ _ (found _ _ _ _ f c.in-Seq.is c.in-Some.ensures.value h) c.alone.ensures

pub single-returns-then-no_form : goal.single-returns-then-no_form
single-returns-then-no_form t c f n h = or_none n _ (found _ _ _ _ f c.in-Or.is c.in-Some.ensures.value h) _ c.no_form.ensures c.if-no_form.true

pub single-returns-else-no_form : goal.single-returns-else-no_form
single-returns-else-no_form t c f n h = sym (ap (λ b. b || c.alone-else-no_form.result) c.if-no_form.false) ∙ or_single n _ _ _ (found _ _ _ _ f c.in-Or.is c.in-Some.ensures.value h) c.no_form.ensures c.alone-else-no_form.ensures

pub single-returns-in-Rep : goal.single-returns-in-Rep
single-returns-in-Rep t c f n h = rep_single n _ _ _ _ (found _ _ _ _ f c.in-Rep.is c.in-Some.ensures.value h) (falls_test _ _)

pub single-returns-in-Star : goal.single-returns-in-Star
single-returns-in-Star t c f n h =
    ⊎_elim (λ is. star_single n _ (found _ _ _ _ f is.1 c.in-Some.ensures.value h))
    (⊎_elim (λ is. start_single n (found _ _ _ _ f is c.in-Some.ensures.value h)) (λ is. end_single n (found _ _ _ _ f is c.in-Some.ensures.value h))) c.in-Star.is

pub single-returns-in-Nil : goal.single-returns-in-Nil
single-returns-in-Nil t c f n h =
    ⊎_elim (λ is. absurd (no_nil (found _ _ _ _ f is c.in-Some.ensures.value h)))
    (λ is. absurd (no_cons _ _ (found _ _ _ _ f is.2 c.in-Some.ensures.value h))) c.in-Nil.is
