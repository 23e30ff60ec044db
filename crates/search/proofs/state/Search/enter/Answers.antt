use Rattle.std.proofs.Common.{◌≡◌, ◌+◌, ◌<◌, ◌++◌, length, sym, refl, ap, ◌∙◌, subst, arith, length-append}
use Rattle.search.specs.Finding.{MatchesMore}
use Rattle.search.specs.Telling.{gathered_of}
use Rattle.search.specs.declared.finder.Finder.{Finder}
use Rattle.search.proofs.Entering.{entered_full, entered_part}
use Rattle.search.proofs.state.Search.enter.Goals as goal

pub returns-then-alone : goal.returns-then-alone
returns-then-alone g c =
    let row = g.B.Block.row in
    let w = g.B.Block.places in
    let s = c.args.self.now in
    let part = c.args.part.now in
    let a = c.alone.ensures c.if-alone.true in
    record {
      state = refl;
      on = λ F bytes hs R enough some room far.
          let size : length part ≡ w = omega arith in
          let taken : c.saturating_add-self.result ≡ s.taken + length part = omega arith in
          entered_full row w g.met.B.Block.some s _ part (length c.args.blocks.now) F bytes hs R some room enough far part size
          (ap (λ l. l ++ part) (sym a.0)) c.match_more.result c.match_more.ensures a.0 taken;
    }

pub returns-then-len-width : goal.returns-then-len-width
returns-then-len-width g c =
    let row = g.B.Block.row in
    let w = g.B.Block.places in
    let s = c.args.self.now in
    let u = c.gather.new.self in
    let part = c.args.part.now in
    let G = c.gather.ensures in
    record {
      state = G.state;
      on = λ F bytes hs R enough some room far.
          let short : length (gathered_of u) < w = omega arith in
          let taken : u.taken ≡ s.taken + length part = omega arith in
          entered_part row w g.met.B.Block.some s u part (length c.args.blocks.now) F bytes hs R some room enough far G.finder (G.kept (omega arith)) short taken;
    }

pub returns : goal.returns
returns g c =
    let row = g.B.Block.row in
    let w = g.B.Block.places in
    let s = c.args.self.now in
    let v = c.gather.new.self in
    let u = c.match_gathered.new.self in
    let part = c.args.part.now in
    let G = c.gather.ensures in
    let M = c.match_gathered.ensures in
    record {
      state = M.state ∙ G.state;
      on = λ F bytes hs R enough some room far.
          let k = G.kept (omega arith) in
          let size : length (gathered_of v) ≡ w = omega (arith, ap length k, length-append (gathered_of s) part) in
          let taken : u.taken ≡ s.taken + length part = omega arith in
          entered_full row w g.met.B.Block.some s u part (length c.args.blocks.now) F bytes hs R some room enough far (gathered_of v) size k c.match_gathered.result
          (subst (λ (x : Finder _). MatchesMore row w x u.finder (gathered_of v) (length c.args.blocks.now) c.match_gathered.result) G.finder M.finder) M.gathered taken;
    }
