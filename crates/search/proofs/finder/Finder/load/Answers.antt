use Rattle.std.proofs.Common.{◌≤◌, sym, subst, arith}
use native.Mathlib.Nat.{zero-mod}
use Rattle.limits.specs.Limits.{widest_kind}
use Rattle.machine.specs.Matching.{Loaded, Matched}
use Rattle.machine.specs.declared.loaded.Matcher.{Matcher}
use Rattle.search.proofs.Finding.{fresh}
use Rattle.search.proofs.finder.Finder.load.Goals as goal

pub returns : goal.returns
returns g c =
    let w = g.B.Block.places in
    let k = c.in_ok-load.ensures in
    let narrow : w ≤ widest_kind = omega arith in
    let m = c.forget.ensures.matcher in (
      narrow,
      (
        k.0,
        k.1,
        fresh g.B.Block.row w g.met.B.Block.some c.forget.new.self k.0 (subst (λ (x : Matcher). Loaded k.0 x) (sym m) k.2) narrow c.forget.ensures.blank,
        record { carried = subst (λ (x : Matcher). Matched k.0 _ x) (sym m) k.3; full = zero-mod w },
      ),
    )
