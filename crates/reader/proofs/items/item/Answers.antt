use Rattle.std.proofs.Common.{◌∷◌, length, sym, refl, ap, ◌∙◌, arith, rules}
use Rattle.std.proofs.lemmas.List.{length_push}
use Rattle.lexer.specs.Tokens.{word}
use Rattle.tree.specs.Stands.{ranges_of, item as item_in}
use Rattle.grammar.proofs.Wants.{item}
use Rattle.grammar.proofs.Going.{refuse_word, refuse_falling, no_item, item_wordy}
use Rattle.std.specs.Option.{option_map}
use Rattle.std.proofs.lemmas.Option.{MatchOption-at_some, none-some}
use Rattle.reader.proofs.Exits.{exits, lacks, has}
use Rattle.reader.proofs.Parts.{word_on}
use Rattle.reader.proofs.items.item.Goals as goal

pub returns-in_err-w : goal.returns-in_err-w
returns-in_err-w c =
    record { same = search rules; reads = exits _ _ _ _ c.from_residual.ensures.1 (λ σ. c.in_err-w.ensures.reads item σ item_wordy) }

pub returns-in_err-r-clause-reads : goal.returns-in_err-r-clause-reads
returns-in_err-r-clause-reads c =
    let none = lacks c.spelt.result _ _ c.ok_or.ensures.value c.in_err-r.was in
    exits _ _ _ _ c.from_residual-in_err-r.ensures.1
    (λ σ. rw (none.1, c.unexpected.ensures) (refuse_word _ item σ (no_item _ (λ i e. none-some i (sym (ap (option_map item_in) none.0) ∙ c.spelt.ensures ∙ e))) refl c.in_ok-w.ensures.reads refl))

pub returns-then-r-clause-reads : goal.returns-then-r-clause-reads
returns-then-r-clause-reads c =
    let is = has c.spelt.result _ _ c.ok_or.ensures.value c.in_ok-r.was in
    λ σ. refuse_falling _ (item_in c.in_ok-r.r) σ (sym c.spelt.ensures ∙ ap (option_map item_in) is) c.if-r.true refl c.in_ok-w.ensures.reads c.start.ensures

pub returns-clause-reads : goal.returns-clause-reads
returns-clause-reads c =
    let l = c.in_ok-w.ensures.reads in
    let is = has c.spelt.result _ _ c.ok_or.ensures.value c.in_ok-r.was in
    let kept = MatchOption-at_some _ _ _ c.unwrap.ensures c.range.ensures.kept in
    record { range = c.in_ok-r.r; ranged = kept; reads = λ us r t. (word _ ∷ us, (_, _, l, t), (_, refl, sym c.spelt.ensures ∙ ap (option_map item_in) is, c.if-r.false)); on = word_on l; room = omega (arith, word_on l, c.requires.ranges, ap length kept.ranges, length_push (ranges_of c.args.tree.now) c.in_ok-r.r) }
