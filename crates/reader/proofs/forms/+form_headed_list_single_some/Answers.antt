use Rattle.std.proofs.Common.{◌+◌, [], ◌∷◌, length, refl, ap, ◌∙◌, subst, arith}
use Rattle.std.proofs.lemmas.Result.{MatchResult-weaker}
use Rattle.std.proofs.lemmas.Option.{MatchOption-at_some}
use Rattle.lexer.specs.Places.{text_of, place_of, start_of}
use Rattle.lexer.specs.Tokens.{opening, word}
use Rattle.tree.proofs.Growing.{stands_more, holds_falls, cons_falls}
use Rattle.grammar.specs.Names.{name}
use Rattle.grammar.specs.declared.Head.TheVariants as head
use Rattle.grammar.proofs.Wants.{form, forms, heading, shut, least, after, heads, form_opens}
use Rattle.grammar.proofs.Refusals.{Refused}
use Rattle.grammar.proofs.Past.{past}
use Rattle.grammar.proofs.Going.{stray_at, refuse_form, refuse_deep, refuse_word, no_head, heading_wordy, on_token, beyond, past_counts, forms_refused}
use Rattle.reader.specs.Faults.{verdict}
use Rattle.reader.specs.Reading.{SomeRead}
use Rattle.reader.proofs.Exits.{exits, missed, told}
use Rattle.reader.proofs.Parts.{as_open, as_quote, open_on, room_on, room_push, set_read, out_read, seq_read, or_read, star_read, rep_read, start_read, end_read, nil_read, some_read, open_read, quote_read, list_some}
use Rattle.reader.proofs.forms.+form_headed_list_single_some.Goals as goal

-- form
pub form-returns-in_err-next : goal.form-returns-in_err-next
form-returns-in_err-next t c =
    record { same = c.next.ensures.same; reads = exits _ _ _ _ c.from_residual.ensures.1 (λ σ. stray_at (form c.args.depth.brackets ∷ σ) refl c.in_err-next.ensures.token.0) }

pub form-returns-in_err-deeper-in-Open-clause-reads : goal.form-returns-in_err-deeper-in-Open-clause-reads
form-returns-in_err-deeper-in-Open-clause-reads t c =
    let l = as_open (text_of c.args.lexer.now) (place_of c.args.lexer.now) (start_of c.next.new.self) (place_of c.next.new.self) _ c.in-Open.is c.in_ok-next.ensures.token in
    let none = missed c.deeper.result _ _ _ _ c.ok_or.ensures.value c.in_err-deeper-in-Open.was c.deeper.ensures in
    exits _ _ _ _ c.from_residual-in_err-deeper-in-Open.ensures.1
    (λ σ. rw none.1 (refuse_deep _ σ none.0 refl l c.start.ensures))

pub form-returns-in_err-node-in-Open : goal.form-returns-in_err-node-in-Open
form-returns-in_err-node-in-Open t c =
    let l = as_open (text_of c.args.lexer.now) (place_of c.args.lexer.now) (start_of c.next.new.self) (place_of c.next.new.self) _ c.in-Open.is c.in_ok-next.ensures.token in
    let in_it = told c.deeper.result _ _ _ _ c.ok_or.ensures.value c.in_ok-deeper-in-Open.was c.deeper.ensures in
    record { same = c.in_err-node-in-Open.ensures.same ∙ c.next.ensures.same; reads = exits _ _ _ _ c.from_residual-in_err-node-in-Open.ensures.1 (λ σ. on_token opening (form c.args.depth.brackets) (heading (c.args.depth.brackets + 1) ∷ []) σ _ l (form_opens in_it.0) c.next.ensures.same (subst (λ d. Refused (text_of c.next.new.self) (place_of c.next.new.self) (heading d ∷ σ) (verdict c.in_err-node-in-Open.field-0.0)) in_it.1 (c.in_err-node-in-Open.ensures.reads σ))) }

pub form-unwrap-requires : goal.form-unwrap-requires
form-unwrap-requires t c =
    let l = as_open (text_of c.args.lexer.now) (place_of c.args.lexer.now) (start_of c.next.new.self) (place_of c.next.new.self) _ c.in-Open.is c.in_ok-next.ensures.token in
    let h = c.in_ok-node-in-Open.ensures.reads in
    let on = open_on l in
    c.push.ensures.room (room_push (room_on {q = place_of c.next.new.self} c.requires c.next.ensures.same (omega arith)) h.added c.in_ok-node-in-Open.ensures.same c.headed.new.lexer.within) (holds_falls _ h.form _ h.holds)

pub form-returns-in_ok-node-in-Open : goal.form-returns-in_ok-node-in-Open
form-returns-in_ok-node-in-Open t c =
    let l = as_open (text_of c.args.lexer.now) (place_of c.args.lexer.now) (start_of c.next.new.self) (place_of c.next.new.self) _ c.in-Open.is c.in_ok-next.ensures.token in
    let in_it = told c.deeper.result _ _ _ _ c.ok_or.ensures.value c.in_ok-deeper-in-Open.was c.deeper.ensures in
    record { same = c.in_ok-node-in-Open.ensures.same ∙ c.next.ensures.same; reads = open_read l c.next.ensures.same in_it.1 c.in_ok-node-in-Open.ensures.reads in_it.0 (MatchOption-at_some _ _ _ c.unwrap.ensures c.push.ensures.pushed) }

pub form-returns-in-Quote : goal.form-returns-in-Quote
form-returns-in-Quote t c =
    let l = as_quote (text_of c.args.lexer.now) (place_of c.args.lexer.now) (start_of c.next.new.self) (place_of c.next.new.self) _ c.in-Quote.q c.in-Quote.is c.in_ok-next.ensures.token in
    record { same = c.next.ensures.same; reads = quote_read c.requires l (MatchOption-at_some _ _ _ c.unwrap-node.ensures c.quote.ensures.kept) (MatchOption-at_some _ _ _ c.unwrap-in-Quote.ensures c.push-in-Quote.ensures.pushed) }

pub form-returns-in_default : goal.form-returns-in_default
form-returns-in_default t c =
    record { same = c.next.ensures.same; reads = λ σ. rw c.unexpected.ensures (refuse_form _ _ _ _ _ _ _ refl c.in_ok-next.ensures.token refl _ σ c.in_default.not-Open c.in_default.not-Quote) }

-- headed
pub headed-returns-in_err-w : goal.headed-returns-in_err-w
headed-returns-in_err-w t c =
    record { same = c.word.ensures.same; reads = exits _ _ _ _ c.from_residual.ensures.1 (λ σ. c.in_err-w.ensures.reads (heading c.args.depth.brackets) σ (heading_wordy _)) }

pub headed-returns-in_err-head-clause-reads : goal.headed-returns-in_err-head-clause-reads
headed-returns-in_err-head-clause-reads t c =
    let none = missed c.named.result _ _ _ _ c.ok_or.ensures.value c.in_err-head.was c.named.ensures in
    exits _ _ _ _ c.from_residual-in_err-head.ensures.1
    (λ σ. rw (none.1, c.unexpected.ensures) (refuse_word _ (heading c.args.depth.brackets) σ (no_head _ _ none.0) refl c.in_ok-w.ensures.reads refl))

pub headed-returns-in_err-some_items-in-Set : goal.headed-returns-in_err-some_items-in-Set
headed-returns-in_err-some_items-in-Set t c =
    record { same = c.in_err-some_items-in-Set.ensures.same ∙ c.word.ensures.same; reads = exits _ _ _ _ c.from_residual-in_err-some_items-in-Set.ensures.1 (λ σ. on_token (word _) (heading c.args.depth.brackets) (after c.args.depth.brackets head.Set) σ _ c.in_ok-w.ensures.reads (heads head.Set (told c.named.result _ _ _ _ c.ok_or.ensures.value c.in_ok-head.was c.named.ensures ∙ ap name c.in-Set.is)) c.word.ensures.same (c.in_err-some_items-in-Set.ensures.reads σ)) }

pub headed-returns-in_err-items-in-Out : goal.headed-returns-in_err-items-in-Out
headed-returns-in_err-items-in-Out t c =
    record { same = c.in_err-items-in-Out.ensures.same ∙ c.word.ensures.same; reads = exits _ _ _ _ c.from_residual-in_err-items-in-Out.ensures.1 (λ σ. on_token (word _) (heading c.args.depth.brackets) (after c.args.depth.brackets head.Out) σ _ c.in_ok-w.ensures.reads (heads head.Out (told c.named.result _ _ _ _ c.ok_or.ensures.value c.in_ok-head.was c.named.ensures ∙ ap name c.in-Out.is)) c.word.ensures.same (c.in_err-items-in-Out.ensures.reads σ)) }

pub headed-returns-in_err-parts-in-Seq : goal.headed-returns-in_err-parts-in-Seq
headed-returns-in_err-parts-in-Seq t c =
    record { same = c.in_err-parts-in-Seq.ensures.same ∙ c.word.ensures.same; reads = exits _ _ _ _ c.from_residual-in_err-parts-in-Seq.ensures.1 (λ σ. on_token (word _) (heading c.args.depth.brackets) (after c.args.depth.brackets head.Seq) σ _ c.in_ok-w.ensures.reads (heads head.Seq (told c.named.result _ _ _ _ c.ok_or.ensures.value c.in_ok-head.was c.named.ensures ∙ ap name c.in-Seq.is)) c.word.ensures.same (c.in_err-parts-in-Seq.ensures.reads σ)) }

pub headed-returns-in_err-parts-in-Or : goal.headed-returns-in_err-parts-in-Or
headed-returns-in_err-parts-in-Or t c =
    record { same = c.in_err-parts-in-Or.ensures.same ∙ c.word.ensures.same; reads = exits _ _ _ _ c.from_residual-in_err-parts-in-Or.ensures.1 (λ σ. on_token (word _) (heading c.args.depth.brackets) (after c.args.depth.brackets head.Or) σ _ c.in_ok-w.ensures.reads (heads head.Or (told c.named.result _ _ _ _ c.ok_or.ensures.value c.in_ok-head.was c.named.ensures ∙ ap name c.in-Or.is)) c.word.ensures.same (c.in_err-parts-in-Or.ensures.reads σ)) }

pub headed-returns-in_err-part-in-Star : goal.headed-returns-in_err-part-in-Star
headed-returns-in_err-part-in-Star t c =
    record { same = c.in_err-part-in-Star.ensures.same ∙ c.word.ensures.same; reads = exits _ _ _ _ c.from_residual-in_err-part-in-Star.ensures.1 (λ σ. on_token (word _) (heading c.args.depth.brackets) (after c.args.depth.brackets head.Star) σ _ c.in_ok-w.ensures.reads (heads head.Star (told c.named.result _ _ _ _ c.ok_or.ensures.value c.in_ok-head.was c.named.ensures ∙ ap name c.in-Star.is)) c.word.ensures.same (c.in_err-part-in-Star.ensures.reads σ)) }

pub headed-returns-in_err-least-in-Rep : goal.headed-returns-in_err-least-in-Rep
headed-returns-in_err-least-in-Rep t c =
    record { same = c.in_err-least-in-Rep.ensures.same ∙ c.word.ensures.same; reads = exits _ _ _ _ c.from_residual-in_err-least-in-Rep.ensures.1 (λ σ. on_token (word _) (heading c.args.depth.brackets) (after c.args.depth.brackets head.Rep) σ _ c.in_ok-w.ensures.reads (heads head.Rep (told c.named.result _ _ _ _ c.ok_or.ensures.value c.in_ok-head.was c.named.ensures ∙ ap name c.in-Rep.is)) c.word.ensures.same (c.in_err-least-in-Rep.ensures.reads _ σ)) }

pub headed-returns-in_err-close-in-Start : goal.headed-returns-in_err-close-in-Start
headed-returns-in_err-close-in-Start t c =
    record { same = c.in_err-close-in-Start.ensures.same ∙ c.word.ensures.same; reads = exits _ _ _ _ c.from_residual-in_err-close-in-Start.ensures.1 (λ σ. on_token (word _) (heading c.args.depth.brackets) (after c.args.depth.brackets head.Start) σ _ c.in_ok-w.ensures.reads (heads head.Start (told c.named.result _ _ _ _ c.ok_or.ensures.value c.in_ok-head.was c.named.ensures ∙ ap name c.in-Start.is)) c.word.ensures.same (c.in_err-close-in-Start.ensures.reads σ)) }

pub headed-returns-in_err-close-in-End : goal.headed-returns-in_err-close-in-End
headed-returns-in_err-close-in-End t c =
    record { same = c.in_err-close-in-End.ensures.same ∙ c.word.ensures.same; reads = exits _ _ _ _ c.from_residual-in_err-close-in-End.ensures.1 (λ σ. on_token (word _) (heading c.args.depth.brackets) (after c.args.depth.brackets head.End) σ _ c.in_ok-w.ensures.reads (heads head.End (told c.named.result _ _ _ _ c.ok_or.ensures.value c.in_ok-head.was c.named.ensures ∙ ap name c.in-End.is)) c.word.ensures.same (c.in_err-close-in-End.ensures.reads σ)) }

pub headed-returns-in_err-part-in-Rep : goal.headed-returns-in_err-part-in-Rep
headed-returns-in_err-part-in-Rep t c =
    let a = c.in_ok-least-in-Rep.ensures.reads in
    record {
      same = c.in_err-part-in-Rep.ensures.same ∙ c.in_ok-least-in-Rep.ensures.same ∙ c.word.ensures.same;
      reads =
          exits _ _ _ _ c.from_residual-in_err-part-in-Rep.ensures.1
          (λ σ. on_token (word _) (heading c.args.depth.brackets) (after c.args.depth.brackets head.Rep) σ _ c.in_ok-w.ensures.reads (heads head.Rep (told c.named.result _ _ _ _ c.ok_or.ensures.value c.in_ok-head.was c.named.ensures ∙ ap name c.in-Rep.is)) c.word.ensures.same
          (beyond _ (least c.args.depth.brackets ∷ σ) (form c.args.depth.brackets ∷ shut ∷ σ) _ (past_counts _ _ _ σ a.bounds) refl a.reads c.in_ok-least-in-Rep.ensures.same (c.in_err-part-in-Rep.ensures.reads σ)));
    }

pub headed-returns-in_ok-some_items-in-Set : goal.headed-returns-in_ok-some_items-in-Set
headed-returns-in_ok-some_items-in-Set t c =
    let l = c.in_ok-w.ensures.reads in
    let is = told c.named.result _ _ _ _ c.ok_or.ensures.value c.in_ok-head.was c.named.ensures ∙ ap name c.in-Set.is in
    record { same = c.in_ok-some_items-in-Set.ensures.same ∙ c.word.ensures.same; reads = set_read l c.word.ensures.same is c.requires c.in_ok-some_items-in-Set.ensures.reads.2 c.ranges_len-from.ensures c.ranges_len.ensures }

pub headed-returns-in_ok-items-in-Out : goal.headed-returns-in_ok-items-in-Out
headed-returns-in_ok-items-in-Out t c =
    let l = c.in_ok-w.ensures.reads in
    let is = told c.named.result _ _ _ _ c.ok_or.ensures.value c.in_ok-head.was c.named.ensures ∙ ap name c.in-Out.is in
    record { same = c.in_ok-items-in-Out.ensures.same ∙ c.word.ensures.same; reads = out_read l c.word.ensures.same is c.requires c.in_ok-items-in-Out.ensures.reads.1 c.ranges_len-from-in-Out.ensures c.ranges_len-in-Out.ensures }

pub headed-returns-in_ok-parts-in-Seq : goal.headed-returns-in_ok-parts-in-Seq
headed-returns-in_ok-parts-in-Seq t c =
    let l = c.in_ok-w.ensures.reads in
    let is = told c.named.result _ _ _ _ c.ok_or.ensures.value c.in_ok-head.was c.named.ensures ∙ ap name c.in-Seq.is in
    record { same = c.in_ok-parts-in-Seq.ensures.same ∙ c.word.ensures.same; reads = seq_read l c.word.ensures.same is c.in_ok-parts-in-Seq.ensures.reads }

pub headed-returns-in_ok-parts-in-Or : goal.headed-returns-in_ok-parts-in-Or
headed-returns-in_ok-parts-in-Or t c =
    let l = c.in_ok-w.ensures.reads in
    let is = told c.named.result _ _ _ _ c.ok_or.ensures.value c.in_ok-head.was c.named.ensures ∙ ap name c.in-Or.is in
    record { same = c.in_ok-parts-in-Or.ensures.same ∙ c.word.ensures.same; reads = or_read l c.word.ensures.same is c.in_ok-parts-in-Or.ensures.reads }

pub headed-returns-in_ok-part-in-Star : goal.headed-returns-in_ok-part-in-Star
headed-returns-in_ok-part-in-Star t c =
    let l = c.in_ok-w.ensures.reads in
    let is = told c.named.result _ _ _ _ c.ok_or.ensures.value c.in_ok-head.was c.named.ensures ∙ ap name c.in-Star.is in
    record { same = c.in_ok-part-in-Star.ensures.same ∙ c.word.ensures.same; reads = star_read l c.word.ensures.same is c.in_ok-part-in-Star.ensures.reads }

pub headed-returns-in_ok-part-in-Rep : goal.headed-returns-in_ok-part-in-Rep
headed-returns-in_ok-part-in-Rep t c =
    let l = c.in_ok-w.ensures.reads in
    let is = told c.named.result _ _ _ _ c.ok_or.ensures.value c.in_ok-head.was c.named.ensures ∙ ap name c.in-Rep.is in
    record { same = c.in_ok-part-in-Rep.ensures.same ∙ c.in_ok-least-in-Rep.ensures.same ∙ c.word.ensures.same; reads = rep_read l c.word.ensures.same is c.in_ok-least-in-Rep.ensures.reads c.in_ok-least-in-Rep.ensures.same c.in_ok-part-in-Rep.ensures.reads }

pub headed-returns-in_ok-close-in-Start : goal.headed-returns-in_ok-close-in-Start
headed-returns-in_ok-close-in-Start t c =
    let l = c.in_ok-w.ensures.reads in
    let is = told c.named.result _ _ _ _ c.ok_or.ensures.value c.in_ok-head.was c.named.ensures ∙ ap name c.in-Start.is in
    record { same = c.in_ok-close-in-Start.ensures.same ∙ c.word.ensures.same; reads = start_read l c.word.ensures.same c.args.tree.now is c.requires c.in_ok-close-in-Start.ensures.reads }

pub headed-returns-in_ok-close-in-End : goal.headed-returns-in_ok-close-in-End
headed-returns-in_ok-close-in-End t c =
    let l = c.in_ok-w.ensures.reads in
    let is = told c.named.result _ _ _ _ c.ok_or.ensures.value c.in_ok-head.was c.named.ensures ∙ ap name c.in-End.is in
    record { same = c.in_ok-close-in-End.ensures.same ∙ c.word.ensures.same; reads = end_read l c.word.ensures.same c.args.tree.now is c.requires c.in_ok-close-in-End.ensures.reads }

-- list
pub list-returns-then-closes : goal.list-returns-then-closes
list-returns-then-closes t c =
    record { same = c.closes.ensures.same; reads = nil_read c.requires c.if-closes.ensures.token (MatchOption-at_some _ _ _ c.unwrap.ensures c.push.ensures.pushed) }

pub list-returns : goal.list-returns
list-returns t c =
    let closes = c.if-closes.ensures.token in
    record {
      same = c.some.ensures.same ∙ c.closes.ensures.same;
      reads =
          MatchResult-weaker c.some.result c.some.ensures.reads
          (λ i h. list_some (subst (λ l. SomeRead (text_of l) (place_of l) (place_of c.some.new.lexer) c.args.depth.brackets c.args.tree.now c.some.new.tree i) closes.1 h))
          (λ e h σ. forms_refused _ σ _ _ _ _ refl closes.0 (subst (λ l. Refused (text_of l) (place_of l) (form c.args.depth.brackets ∷ forms c.args.depth.brackets ∷ σ) (verdict e)) closes.1 (h σ)));
    }

-- single
pub single-returns-in_err-close : goal.single-returns-in_err-close
single-returns-in_err-close t c =
    let a = c.in_ok-part.ensures.reads in
    record { same = c.in_err-close.ensures.same ∙ c.in_ok-part.ensures.same; reads = exits _ _ _ _ c.from_residual-in_err-close.ensures.1 (λ σ. beyond _ (form c.args.depth.brackets ∷ shut ∷ σ) (shut ∷ σ) _ (λ ts us ρ f k. past a.form f k) refl a.reads c.in_ok-part.ensures.same (c.in_err-close.ensures.reads σ)) }

-- some
pub some-returns-in_err-tail : goal.some-returns-in_err-tail
some-returns-in_err-tail t c =
    let a = c.in_ok-head.ensures.reads in
    record { same = c.in_err-tail.ensures.same ∙ c.in_ok-head.ensures.same; reads = exits _ _ _ _ c.from_residual-in_err-tail.ensures.1 (λ σ. beyond _ (form c.args.depth.brackets ∷ forms c.args.depth.brackets ∷ σ) (forms c.args.depth.brackets ∷ σ) _ (λ ts us ρ f k. past a.form f k) refl a.reads c.in_ok-head.ensures.same (c.in_err-tail.ensures.reads σ)) }

pub some-unwrap-requires : goal.some-unwrap-requires
some-unwrap-requires t c =
    let a = c.in_ok-head.ensures.reads in
    let b = c.in_ok-tail.ensures.reads in
    c.push.ensures.room
    (omega (arith, c.requires.nodes, c.requires.short, a.added.nodes, b.added.nodes, a.added.on, b.added.on, ap length c.in_ok-head.ensures.same, ap length c.in_ok-tail.ensures.same, c.list.new.lexer.within))
    (cons_falls _ a.form b.forms _ _ (stands_more _ _ a.form _ b.added.grows a.stands) b.stand)

pub some-returns : goal.some-returns
some-returns t c =
    record { same = c.in_ok-tail.ensures.same ∙ c.in_ok-head.ensures.same; reads = some_read c.in_ok-head.ensures.reads c.in_ok-head.ensures.same c.in_ok-tail.ensures.reads (MatchOption-at_some _ _ _ c.unwrap.ensures c.push.ensures.pushed) }
