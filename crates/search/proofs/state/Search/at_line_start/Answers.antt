use Rattle.std.proofs.Common.{ℕ, ◌-◌, List, length, sym, ap, ◌∙◌}
use Rattle.std.specs.List.{slice_get}
use Rattle.search.proofs.Entering.{last_gathered}
use Rattle.search.proofs.state.Search.at_line_start.Goals as goal

pub returns-in-Some : goal.returns-in-Some
returns-in-Some g c F bytes hs ws R =
    last_gathered g.B.Block.row g.B.Block.places g.met.B.Block.some c.args.self.now F bytes hs ws R c.in-Some.byte.now
    (ap (λ (xs : List ℕ). slice_get xs (length xs - 1)) (sym c.deref.ensures.0) ∙ sym c.in-Some.ensures.value)
