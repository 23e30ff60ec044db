use Rattle.std.proofs.Common.{refl, ⊎_elim}
use Rattle.tree.proofs.Shapes.{found, found_row, none_stand, no_nil, no_cons}
use Rattle.classes.proofs.Adding.{quote_adds, set_adds, out_adds, seq_adds, or_adds, star_adds, rep_adds, start_adds, end_adds, cons_adds, any_adds, nil_adds}
use Rattle.classes.proofs.table.ClassTable.+form_list_repeat_union.Goals as goal

pub form-returns-in-Quote : goal.form-returns-in-Quote
form-returns-in-Quote t c f h = quote_adds _ _ _ _ _ (found _ _ _ _ f c.in-Quote.is c.in-Some.ensures.value h) c.bytes.ensures.here c.quote.ensures

pub form-returns-in-Set : goal.form-returns-in-Set
form-returns-in-Set t c f h = set_adds _ _ _ _ _ _ (found _ _ _ _ f c.in-Set.is c.in-Some.ensures.value h) c.ranges-in-Set.ensures.here c.inside.ensures c.put.ensures

pub form-returns-in-Out : goal.form-returns-in-Out
form-returns-in-Out t c f h = out_adds _ _ _ _ _ _ (found _ _ _ _ f c.in-Out.is c.in-Some.ensures.value h) c.ranges-in-Out.ensures.here c.outside.ensures c.put-in-Out.ensures

pub form-returns-in-Seq : goal.form-returns-in-Seq
form-returns-in-Seq t c f h = seq_adds _ _ _ (found _ _ _ _ f c.in-Seq.is c.in-Some.ensures.value h) c.list.ensures

pub form-returns-in-Or : goal.form-returns-in-Or
form-returns-in-Or t c f h = or_adds _ _ _ (found _ _ _ _ f c.in-Or.is c.in-Some.ensures.value h) c.union.ensures

pub form-returns-in-Star : goal.form-returns-in-Star
form-returns-in-Star t c f h = star_adds _ _ _ (found _ _ _ _ f c.in-Star.is c.in-Some.ensures.value h) c.form.ensures

pub form-returns-in-Rep : goal.form-returns-in-Rep
form-returns-in-Rep t c f h = rep_adds _ _ _ _ _ (found _ _ _ _ f c.in-Rep.is c.in-Some.ensures.value h) c.repeat.ensures

pub form-returns-in-Start : goal.form-returns-in-Start
form-returns-in-Start t c f h =
    ⊎_elim (λ is. start_adds _ _ (found _ _ _ _ f is c.in-Some.ensures.value h) refl)
    (λ is. end_adds _ _ (found _ _ _ _ f is c.in-Some.ensures.value h) refl) c.in-Start.is

pub form-returns-in-Nil : goal.form-returns-in-Nil
form-returns-in-Nil t c f h =
    ⊎_elim (λ is. absurd (no_nil (found _ _ _ _ f is c.in-Some.ensures.value h)))
    (λ is. absurd (no_cons _ _ (found _ _ _ _ f is.2 c.in-Some.ensures.value h))) c.in-Nil.is

pub list-returns-in_default : goal.list-returns-in_default
list-returns-in_default t c fs h = absurd (none_stand _ _ fs c.in_default.ensures.value h)

pub list-returns-in-Cons : goal.list-returns-in-Cons
list-returns-in-Cons t c fs h = cons_adds _ _ _ _ _ (found_row _ _ _ _ fs c.in-Cons.is c.in-Some.ensures.value h) c.form.ensures c.list.ensures

pub list-returns-in_default-node : goal.list-returns-in_default-node
list-returns-in_default-node t c fs h = nil_adds _ _ (found_row _ _ _ _ fs refl c.in-Some.ensures.value h) c.in_default-node.not-Cons refl

pub union-returns-in-Cons : goal.union-returns-in-Cons
union-returns-in-Cons t c fs h = any_adds _ _ _ _ _ (found_row _ _ _ _ fs c.in-Cons.is c.in-Some.ensures.value h) c.form.ensures c.list.ensures
