use Rattle.std.proofs.Common.{◌≡◌, ℕ, ◌++◌, Ok, sym, ap, subst, arith}
use Rattle.block.specs.Calls.{answered}
use Rattle.machine.specs.Matching.{Loaded, Matched, Shows}
use Rattle.machine.specs.declared.loaded.Matcher.{Matcher}
use Rattle.search.specs.Finding.{Lined, ends_in}
use Rattle.search.proofs.Finding.{more, kept_loaded, full_more}
use Rattle.search.proofs.finder.Finder.match_more.Goals as goal

pub returns : goal.returns
returns g c F m hs X G some fits room far =
    let row = g.B.Block.row in
    let w = g.B.Block.places in
    let x = c.args.self.now in
    let y = c.show.new.self in
    let piece = c.args.piece.now in
    let K = c.in_ok-shown.ensures in
    let narrow = X.narrow in
    let seen : answered w ≡ w = omega arith in
    let loaded : Loaded F y.matcher = subst (λ (z : Matcher). Loaded F z) (sym c.show.ensures.matcher) (kept_loaded F _ _ K.3 X.loaded) in
    let S : Shows F m piece (ends_in row w y) = subst (Shows F m piece) (sym c.show.ensures.ends) (K.5.shows F m G.carried) in
    let l = c.show.ensures.lines in
    let Y = more row w g.met.B.Block.some x y F m piece hs X G.full some fits far loaded c.in_ok-shown.shown.feeds K.4 S l.0 l.1
    (subst (λ (n : ℕ). Lined row n c.in_ok-shown.shown.feeds x.lines l.0) seen l.2) in (
      _,
      ap Ok (c.waits.ensures F (m ++ piece) hs _ Y),
      Y,
      λ e.
          record {
            carried = subst (λ (z : Matcher). Matched F (m ++ piece) z) (sym c.show.ensures.matcher) (K.5.full e F m G.carried);
            full = full_more row w g.met.B.Block.some m piece G.full e;
          },
    )
