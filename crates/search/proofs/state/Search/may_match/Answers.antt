use Rattle.std.proofs.Common.{◌≡◌, Bool, true, false, ltb, None, sym, ap, ◌∙◌, arith}
use Rattle.std.proofs.lemmas.Bool.{lt-ltb, le-ltb}
use Rattle.refusal.specs.declared.Refusal.TheVariants.{EndsWaiting, TooFewBlocks}
use Rattle.limits.specs.Limits.{need as blocks_for}
use Rattle.form.specs.Form.{weight}
use Rattle.history.specs.Rules.{check, some}
use Rattle.search.specs.Telling.{as_result}
use Rattle.search.proofs.state.Search.may_match.Goals as goal

pub returns-then-waits : goal.returns-then-waits
returns-then-waits g c F bytes hs ws R =
    let e : some ws ≡ true = sym (c.waits.ensures F R.matched hs ws R.finds) ∙ c.if-waits.true in
    sym (ap (λ (b : Bool). as_result (check b EndsWaiting (check (ltb c.args.blocks (blocks_for (weight F))) TooFewBlocks None))) e)

pub returns-then-blocks-blocks_needed : goal.returns-then-blocks-blocks_needed
returns-then-blocks-blocks_needed g c F bytes hs ws R =
    let e : some ws ≡ false = sym (c.waits.ensures F R.matched hs ws R.finds) ∙ c.if-waits.false in
    let n = c.weight.ensures.weight ∙ R.finds.loaded.weighs in
    let m = c.blocks_needed.ensures c.weight.ensures.light in
    let few : ltb c.args.blocks (blocks_for (weight F)) ≡ true = lt-ltb c.args.blocks (blocks_for (weight F)) (omega arith) in
    sym (λ i. as_result (check (e i) EndsWaiting (check (few i) TooFewBlocks None)))

pub returns : goal.returns
returns g c F bytes hs ws R =
    let e : some ws ≡ false = sym (c.waits.ensures F R.matched hs ws R.finds) ∙ c.if-waits.false in
    let n = c.weight.ensures.weight ∙ R.finds.loaded.weighs in
    let m = c.blocks_needed.ensures c.weight.ensures.light in
    let enough : ltb c.args.blocks (blocks_for (weight F)) ≡ false = le-ltb c.args.blocks (blocks_for (weight F)) (omega arith) in
    sym (λ i. as_result (check (e i) EndsWaiting (check (enough i) TooFewBlocks None)))
