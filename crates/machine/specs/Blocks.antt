-- A block that is ready for a form, and what its run finds. Assumes nothing.
use Rattle.std.specs.Prelude.{◌≡◌, ℕ, ◌+◌, ◌-◌, ◌<◌, ◌≤◌, Bool, T, ◌↔◌, List}
use Rattle.block.specs.Rows.{bit}
use Rattle.form.specs.Form.{Form}
use Rattle.form.specs.Positions.{Ending}
use Rattle.theory.specs.Passes.{stars}
use Rattle.theory.specs.Written.{streams, written}
use Rattle.program.specs.declared.Step.{Step}
use Rattle.program.specs.Numbered.{leaves}
use Rattle.program.specs.Compile.{feeds_at, stars_at, Ruled, Within, Each}
use Rattle.program.specs.Matched.{Standing}
use Rattle.program.specs.Sizes.{brackets, class_count, form_program, form_rows}

-- The w places from the position b on of the tape t are ready for the form F: the program is the form's, with its stars' rows from
-- the number `from` on and before `to`; the rows of classes, line starts and line feeds are those of the tape there; and the carries
-- `ins` stand for the matches from before b.
pub record Ready (F : Form) (t : ℕ → ℕ) (b w : ℕ) (program : List Step) (from to : ℕ) (rows : ℕ → List Bool) (ins : ℕ → Bool) : Type 0 where
  pub nested : brackets F ≤ feeds_at
  pub is : program ≡ form_program F
  pub first : from ≡ stars_at (class_count F)
  pub last : to ≡ from + stars (written F)
  pub ruled : Ruled (streams F t) b w (class_count F) rows
  pub standing : Standing F t b ins

-- the marks are just the positions at which a match of F ends, and the carries stand for the matches from before the next block
pub record Found (F : Form) (t : ℕ → ℕ) (b w : ℕ) (marks : List Bool) (carries : ℕ → Bool) : Type 0 where
  pub ends : (p : ℕ) → b ≤ p → p < b + w → T (bit marks (p - b)) ↔ Ending t F p
  pub standing : Standing F t (b + w) carries

-- the program of a form is in range of as many rows and carries as it needs, or more: nothing is left to test when it runs
abbrev pub FormFits : Type 0
FormFits =
    (F : Form) →
    brackets F ≤ feeds_at →
    (n k : ℕ) →
    form_rows F ≤ n →
    leaves (written F) ≤ k →
    Each (Within n k (stars_at (class_count F)) (stars_at (class_count F) + stars (written F))) (form_program F)
