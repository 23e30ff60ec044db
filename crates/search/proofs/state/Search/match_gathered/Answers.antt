use Rattle.std.proofs.Common.{ℕ, List, length, refl, subst}
use Rattle.search.specs.Finding.{MatchesMore}
use Rattle.search.proofs.state.Search.match_gathered.Goals as goal

pub returns : goal.returns
returns g c =
    let s = c.args.self.now in
    record {
      state = refl;
      taken = refl;
      gathered = c.clear.ensures;
      finder =
          subst (λ (l : List ℕ). MatchesMore g.B.Block.row g.B.Block.places s.finder c.match_more-ends.new.self l (length c.args.blocks.now) c.match_more-ends.result) c.as_slice.ensures.value
          c.match_more-ends.ensures;
    }
