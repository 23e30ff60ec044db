use Rattle.std.proofs.Common.{◌≡◌, ◌+◌, ◌-◌, ◌&&◌, cond, eqb, length, Some, sym, refl, ap, ◌∙◌, ⊎_elim, arith}
use Rattle.tree.proofs.Shapes.{found, found_row, none_stand, no_nil, no_cons}
use Rattle.std.proofs.lemmas.Bool.{ne_eqb}
use Rattle.theory.specs.Written.{classes, pattern}
use Rattle.emit.specs.declared.place.Place.{Place}
use Rattle.emit.proofs.Joining.{star_taken, gather_taken}
use Rattle.emit.proofs.Walked.{quote_walks, set_walks, out_walks, seq_walks, or_walks, star_walks, rep_walks, start_walks, end_walks, order_one, order_more, order_rest, either_more, into_walks, on_walks, run_walks, loop_walks, never_walks, repeat_walks, none_left, copy_writes, option_into, option_on}
use Rattle.emit.proofs.code.Code.+copies_either_form_in_order_one_of_repeat_star_up_to.Goals as goal

pub form-returns-in-Quote : goal.form-returns-in-Quote
form-returns-in-Quote t c f h = quote_walks c.args.class c.quote.result c.args.place c.args.self.now c.quote.new.self _ _ _ _ (found _ _ _ _ f c.in-Quote.is c.in-Some.ensures.value h) c.saturating_sub.ensures c.stretched.ensures c.quote.ensures

pub form-returns-in-Set : goal.form-returns-in-Set
form-returns-in-Set t c f h = ⊎_elim (λ is. set_walks c.args.class c.leaf.result c.args.place c.args.self.now c.leaf.new.self _ _ (found _ _ _ _ f is.2 c.in-Some.ensures.value h) c.leaf.ensures) (λ is. out_walks c.args.class c.leaf.result c.args.place c.args.self.now c.leaf.new.self _ _ (found _ _ _ _ f is.2 c.in-Some.ensures.value h) c.leaf.ensures) c.in-Set.is

pub form-returns-in-Seq : goal.form-returns-in-Seq
form-returns-in-Seq t c f h = seq_walks c.args.class c.in_order.result c.args.place c.args.self.now c.in_order.new.self _ (found _ _ _ _ f c.in-Seq.is c.in-Some.ensures.value h) c.in_order.ensures

pub form-returns-in-Or : goal.form-returns-in-Or
form-returns-in-Or t c f h = or_walks c.args.class c.one_of.result c.args.place c.args.self.now c.one_of.new.self _ (found _ _ _ _ f c.in-Or.is c.in-Some.ensures.value h) c.one_of.ensures

pub form-returns-in-Star : goal.form-returns-in-Star
form-returns-in-Star t c f h = star_walks c.args.class c.star.result c.args.place c.args.self.now c.star.new.self _ (found _ _ _ _ f c.in-Star.is c.in-Some.ensures.value h) c.star.ensures

pub form-returns-in-Rep : goal.form-returns-in-Rep
form-returns-in-Rep t c f h = rep_walks c.args.class c.repeat.result c.args.place c.args.self.now c.repeat.new.self _ _ _ (found _ _ _ _ f c.in-Rep.is c.in-Some.ensures.value h) c.repeat.ensures

pub form-returns-in-Start : goal.form-returns-in-Start
form-returns-in-Start t c f h = start_walks c.args.class c.args.place c.args.self.now c.keep.new.self (found _ _ _ _ f c.in-Start.is c.in-Some.ensures.value h) (c.keep.ensures.starts refl c.args.place.depth)

pub form-returns-in-End : goal.form-returns-in-End
form-returns-in-End t c f h = end_walks c.args.class c.args.place c.args.self.now c.keep-in-End.new.self (found _ _ _ _ f c.in-End.is c.in-Some.ensures.value h) (c.keep-in-End.ensures.feeds refl c.args.place.depth)

pub form-returns-in-Nil : goal.form-returns-in-Nil
form-returns-in-Nil t c f h = ⊎_elim (λ is. absurd (no_nil (found _ _ _ _ f is c.in-Some.ensures.value h))) (λ is. absurd (no_cons _ _ (found _ _ _ _ f is.2 c.in-Some.ensures.value h))) c.in-Nil.is

pub in_order-returns-in_default : goal.in_order-returns-in_default
in_order-returns-in_default t c fs h = absurd (none_stand _ _ fs c.in_default.ensures.value h)

pub in_order-returns-then-no_form : goal.in_order-returns-then-no_form
in_order-returns-then-no_form t c fs h = order_one c.args.class c.form.result c.args.place c.args.self.now c.form.new.self _ _ _ (found_row _ _ _ _ fs c.in-Cons.is c.in-Some.ensures.value h) c.no_form.ensures c.if-no_form.true c.form.ensures

pub in_order-returns-else-no_form : goal.in_order-returns-else-no_form
in_order-returns-else-no_form t c fs h = order_more c.args.class c.in_order.result c.form-next.result c.args.place c.before_list-ahead.result c.behind_form-behind.result c.args.self.now c.form-next.new.self c.in_order.new.self _ _ _ (found_row _ _ _ _ fs c.in-Cons.is c.in-Some.ensures.value h) c.no_form.ensures c.if-no_form.false c.before_list-ahead.ensures c.behind_form-behind.ensures c.form-next.ensures c.in_order.ensures

pub in_order-returns-in_default-node : goal.in_order-returns-in_default-node
in_order-returns-in_default-node t c fs h = order_rest c.args.class c.args.place c.args.self.now c.stay.new.self (found_row _ _ _ _ fs refl c.in-Some.ensures.value h) c.in_default-node.not-Cons (c.stay.ensures c.args.place.depth)

pub one_of-returns-else-no_form : goal.one_of-returns-else-no_form
one_of-returns-else-no_form t c fs h = either_more c.args.class c.either.result c.args.place c.args.self.now c.either.new.self _ _ _ (found_row _ _ _ _ fs c.in-Cons.is c.in-Some.ensures.value h) c.no_form.ensures c.if-no_form.false c.either.ensures

pub either-returns-in-Some : goal.either-returns-in-Some
either-returns-in-Some t c f fs a b = into_walks c.args.class c.one_of.result c.form-next.result c.in-Some.row c.args.place c.deeper.result c.args.self.now f fs _ _ a b c.put.new.self c.form-next.new.self c.put-in-Some.new.self c.one_of.new.self c.in-Some.is c.deeper.ensures.place c.deeper.ensures.depth c.put.ensures c.form-next.ensures c.put-in-Some.ensures c.one_of.ensures

pub either-returns-in-None : goal.either-returns-in-None
either-returns-in-None t c f fs a b = on_walks c.args.class c.one_of-next.result c.form-next-in-None.result c.fresh-row.result c.args.place c.deeper-in-None.result c.args.self.now f fs _ _ a b _ c.put-in-None.new.self c.form-next-in-None.new.self c.put-in-None-2.new.self c.put-in-None-3.new.self c.one_of-next.new.self c.put-in-None-4.new.self c.gathered.result c.fresh-row.ensures.here c.in-None.is c.deeper-in-None.ensures.place c.deeper-in-None.ensures.depth c.gathered.ensures (gather_taken _ _ refl c.fresh-row.ensures.counted refl refl) c.put-in-None.ensures c.form-next-in-None.ensures c.put-in-None-2.ensures c.put-in-None-3.ensures c.one_of-next.ensures c.put-in-None-4.ensures

pub star-returns-then-single : goal.star-returns-then-single
star-returns-then-single t c f h = run_walks c.args.class _ c.args.place c.args.self.now c.run.new.self f (sym (c.single.ensures f c.args.class h) ∙ c.if-single.true) (λ few. omega (arith, c.saturating_add.ensures)) (λ few. c.run.ensures few c.args.place.depth)

pub star-returns : goal.star-returns
star-returns t c f h = loop_walks c.args.class c.form-next.result c.fresh-row.result c.args.place c.round.result c.args.self.now _ c.put.new.self c.put-2.new.self c.form-next.new.self c.put-3.new.self c.put-4.new.self c.stay.new.self f c.fresh-row.ensures.here (sym (c.single.ensures f c.args.class h) ∙ c.if-single.false) c.round.ensures (star_taken _ _ refl c.fresh-row.ensures.counted refl refl) c.put.ensures c.put-2.ensures (c.form-next.ensures f h) c.put-3.ensures c.put-4.ensures (c.stay.ensures 0)

pub repeat-returns-then-most-eq0 : goal.repeat-returns-then-most-eq0
repeat-returns-then-most-eq0 t c f h = never_walks c.args.class c.args.place c.args.self.now c.stay.new.self _ _ f (omega arith) (omega arith) (c.stay.ensures c.args.place.depth)

pub repeat-returns : goal.repeat-returns
repeat-returns t c f h = repeat_walks c.args.class c.up_to.result c.copies-next.result c.args.place c.ahead.result c.behind-behind.result c.skips.result c.empty.result c.args.self.now c.copies-next.new.self c.up_to.new.self _ _ f (omega arith) (λ z. omega arith) (c.empty.ensures f c.args.class h) c.skips.ensures c.ahead.ensures c.behind-behind.ensures (c.copies-next.ensures f h (c.empty.ensures f c.args.class h)) (c.up_to.ensures f h (c.empty.ensures f c.args.class h))

pub copies-loop-left-preserved : goal.copies-loop-left-preserved
copies-loop-left-preserved t c f h e is few =
    let old = c.loop-left.invariant f h e is few in
    let left = c.loop-left.left in
    let one = c.form-next.ensures f h few in
    record {
      into = ap (λ (s : Place). s.into) c.behind-place.ensures ∙ old.into;
      next = one.0 ∙ sym (ap (λ b. cond b c.args.part.class (c.args.part.class + length (classes f))) (ne_eqb (c.args.count - (left - 1)) 0 (λ z. omega arith)));
      left = λ z w. old.left z
          (copy_writes (left - 1) left c.loop-left.place c.ahead-ahead.result c.behind-place.result c.args.part.empty c.skips.result (pattern f c.args.part.class) c.loop-left.self c.form-next.new.self z
          (omega arith) e c.skips.ensures old.into c.ahead-ahead.ensures c.behind-place.ensures one.1 w);
    }

pub copies-returns : goal.copies-returns
copies-returns t c f h e is few =
    let all = c.loop-left.invariant f h e is few in
    let p = c.loop-left.place in
    let here : c.args.count - c.loop-left.left ≡ c.args.count = omega arith in (
      all.next ∙ ap (λ n. cond (eqb n 0) c.args.part.class (c.args.part.class + length (classes f))) here,
      all.left c.loop-left.self (none_left c.args.part.class p.depth p.into p.first p.last c.loop-left.left (pattern f c.args.part.class) c.loop-left.self all.into (omega arith)),
    )

pub up_to-returns-in-Some : goal.up_to-returns-in-Some
up_to-returns-in-Some t c f h e few = option_into c.args.part.class c.up_to.result c.args.next c.form-next.result c.args.left c.args.place c.ahead-ahead.result c.behind-behind.result c.args.part.empty f (λ z. omega arith) e few c.in-Some.row c.put.new.self c.form-next.new.self c.up_to.new.self c.ahead-ahead.ensures (c.behind-behind.ensures ∙ (λ i. record { first = c.args.place.first && c.args.part.empty; last = c.args.place.last; into = c.in-Some.is i; depth = c.args.place.depth })) (c.form-next.ensures f h) (c.up_to.ensures f h e few) c.args.self.now c.in-Some.is c.put.ensures

pub up_to-returns-in-None : goal.up_to-returns-in-None
up_to-returns-in-None t c f h e few = option_on c.args.part.class c.up_to-next.result c.args.next c.form-next-in-None.result c.args.left c.args.place c.ahead-ahead.result c.gathered.result c.args.part.empty f (λ z. omega arith) e few c.fresh-row.result c.put-in-None.new.self c.form-next-in-None.new.self c.up_to-next.new.self c.ahead-ahead.ensures (c.gathered.ensures ∙ (λ i. record { first = (c.behind-behind.ensures i).first; last = (c.behind-behind.ensures i).last; into = Some c.fresh-row.result; depth = (c.behind-behind.ensures i).depth })) (c.form-next-in-None.ensures f h) (c.up_to-next.ensures f h e few) c.args.self.now _ c.put-in-None-2.new.self c.fresh-row.ensures.here c.in-None.is (gather_taken _ _ refl c.fresh-row.ensures.counted refl refl) c.put-in-None.ensures c.put-in-None-2.ensures
