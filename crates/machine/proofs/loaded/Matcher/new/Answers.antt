use Rattle.std.proofs.Common.{length, refl, ap, arith}
use Rattle.machine.proofs.Loading.{none_are, none_fits}
use Rattle.machine.proofs.Ready.{fresh}
use Rattle.machine.proofs.loaded.Matcher.new.Goals as goal

pub invariant_of-result : goal.invariant_of-result
invariant_of-result c =
    let x = c.in_ok-compiled.ensures in
    record {
      light = omega arith;
      classes = ap length x.1;
      stars = omega arith;
      rows = omega arith;
      fits = none_fits _ _ x.0;
      few = omega arith;
      long = c.in_ok-carries.ensures.0;
    }

pub returns : goal.returns
returns c =
    let x = c.in_ok-compiled.ensures in (
      fresh _ _
          record {
            compiled = record { program = x.0; sets = none_are _ x.1; classes = refl; stars = refl; carries = refl; rows = refl };
            nested = omega arith;
          }
          (λ k _. c.in_ok-carries.ensures.1 k) refl,
      refl,
    )
