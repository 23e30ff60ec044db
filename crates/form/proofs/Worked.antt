-- The worked recordings, by computing their ends. Assumes nothing.
use Rattle.std.proofs.Common.{[], ◌∷◌, ◌++◌, codes}
use Rattle.form.specs.Form.{quote}
use Rattle.form.specs.Meaning.{feed}
use Rattle.form.specs.Worked.{filled, between, not_dot, nested, Worked}
use Rattle.form.proofs.Existing.{are_ends}

pub worked : Worked
worked =
    record {
      none = are_ends [] (quote []);
      every = are_ends (codes "a") (quote []);
      whole = are_ends (codes "##" ++ (feed ∷ codes "#.")) filled;
      three = are_ends (codes ".###.") between;
      four = are_ends (codes ".####.") between;
      other = are_ends (codes ".a" ++ (feed ∷ [])) not_dot;
      stars = are_ends (codes "ba") nested;
    }
