use Rattle.std.proofs.Common.{◌≡◌, sym, ap, ◌∙◌, inl, inr}
use Rattle.history.specs.Calls as history
use Rattle.history.specs.Rules.{weighs}
use Rattle.search.proofs.Performing.{says_weight, state_at, is_running, is_ended}
use Rattle.search.proofs.state.Search.loaded_weight.Goals as goal

pub returns-in-Empty : goal.returns-in-Empty
returns-in-Empty g c blocks h T =
    let row = g.B.Block.row in
    let w = g.B.Block.places in
    let s = c.args.self.now in
    let e = state_at row w g.met.B.Block.some s h _ c.in-Empty.is T in
    says_weight row w g.met.B.Block.some s blocks h 0 T (ap (λ z. weighs z T.form) (sym e))

pub returns-in-Open : goal.returns-in-Open
returns-in-Open g c blocks h T =
    let row = g.B.Block.row in
    let w = g.B.Block.places in
    let s = c.args.self.now in
    let value : c.weight.result ≡ weighs (history.state_of h) T.form =
    elim c.in-Open.is [
      | inl o ↦ let e = state_at row w g.met.B.Block.some s h _ o T in c.weight.ensures.weight ∙ (is_running row w g.met.B.Block.some s h e T).finds.loaded.weighs ∙ ap (λ z. weighs z T.form) (sym e)
      | inr o ↦ let e = state_at row w g.met.B.Block.some s h _ o T in c.weight.ensures.weight ∙ (is_ended row w g.met.B.Block.some s h e T).finds.loaded.weighs ∙ ap (λ z. weighs z T.form) (sym e)
    ] in
    says_weight row w g.met.B.Block.some s blocks h c.weight.result T value
