use Rattle.std.proofs.Common.{◌∷◌, refl, ◌∙◌, subst}
use Rattle.std.proofs.lemmas.Result.{MatchResult-weaker}
use Rattle.lexer.specs.Places.{text_of, place_of}
use Rattle.tree.specs.Stands.{item as item_in}
use Rattle.grammar.proofs.Wants.{item, items}
use Rattle.grammar.proofs.Refusals.{Refused}
use Rattle.grammar.proofs.Going.{beyond, past_item, items_refused}
use Rattle.reader.specs.Faults.{verdict}
use Rattle.reader.specs.Reading.{ItemsRead}
use Rattle.reader.proofs.Parts.{items_more}
use Rattle.reader.proofs.items.+items_some_items.Goals as goal

pub items-returns : goal.items-returns
items-returns t c =
    let closes = c.if-closes.ensures.token in
    record {
      same = c.some_items.ensures.same ∙ c.closes.ensures.same;
      reads =
          MatchResult-weaker c.some_items.result c.some_items.ensures.reads
          (λ _ h. (h.0 ∷ h.1, subst (λ l. ItemsRead (text_of l) (place_of l) (place_of c.some_items.new.lexer) c.args.tree.now c.some_items.new.tree (h.0 ∷ h.1)) closes.1 h.2))
          (λ e h σ. items_refused σ _ _ _ _ refl closes.0 (subst (λ l. Refused (text_of l) (place_of l) (item ∷ items ∷ σ) (verdict e)) closes.1 (h σ)));
    }

pub some_items-returns : goal.some_items-returns
some_items-returns t c =
    let a = c.in_ok-item.ensures.reads in
    record {
      same = c.items.ensures.same ∙ c.in_ok-item.ensures.same;
      reads =
          MatchResult-weaker c.items.result c.items.ensures.reads
          (λ _ h. (a.range, h.0, items_more _ _ _ h.0 a c.in_ok-item.ensures.same h.1))
          (λ e h σ. beyond _ (item ∷ items ∷ σ) (items ∷ σ) _ (past_item (item_in a.range) (items ∷ σ)) refl a.reads c.in_ok-item.ensures.same (h σ));
    }
