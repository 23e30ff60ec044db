-- Forms and recordings worked out from the meaning. Assumes nothing.
use Rattle.std.specs.Prelude.{ℕ, [], ◌∷◌, ◌++◌, codes}
use Rattle.form.specs.Form.{Form, Forms, quote, out, seq, star, rep, start, end, nil, cons}
use Rattle.form.specs.Meaning.{feed}
use Rattle.form.specs.Lines.{Place, Ends}

abbrev pub place : ℕ → ℕ → ℕ → Place
place line column position = record { line = line; column = column; position = position }

-- a line of # alone
abbrev pub filled : Form
filled = seq (cons start (cons (star (quote (codes "#"))) (cons end nil)))

-- two or three # between dots
abbrev pub between : Form
between = seq (cons (quote (codes ".")) (cons (rep 2 3 (quote (codes "#"))) (cons (quote (codes ".")) nil)))

abbrev pub not_dot : Form
not_dot = out (record { low = 0x2E; high = 0x2E } ∷ [])

abbrev pub nested : Form
nested = star (star (quote (codes "a")))

pub record Worked : Type 0 where
  -- an empty recording has no line, so that even the empty quote ends nowhere in it
  pub none : Ends [] (quote []) []
  pub every : Ends (codes "a") (quote []) (place 1 0 0 ∷ (place 1 1 1 ∷ []))
  pub whole : Ends (codes "##" ++ (feed ∷ codes "#.")) filled (place 1 2 2 ∷ [])
  pub three : Ends (codes ".###.") between (place 1 5 5 ∷ [])
  pub four : Ends (codes ".####.") between []
  pub other : Ends (codes ".a" ++ (feed ∷ [])) not_dot (place 1 2 2 ∷ [])
  pub stars : Ends (codes "ba") nested (place 1 0 0 ∷ (place 1 1 1 ∷ (place 1 2 2 ∷ [])))
