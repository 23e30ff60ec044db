-- The worked examples: what the definitions say of a few rows, texts and recordings. Assumes nothing.
use Rattle.std.specs.Prelude.{◌≡◌, ℕ, ◌≤◌, List, [], ◌∷◌, map, Some, codes}
use Rattle.refusal.specs.declared.Refusal.{Refusal}
use Rattle.refusal.specs.Refusals.{number_of, place_of}
use Rattle.stream.specs.MatchStar.{Examples}
use Rattle.form.specs.Form.{Form, weight}
use Rattle.form.specs.Lines.{Place, Ends}
use Rattle.grammar.specs.Verdicts.{Settles, accepted}
use Rattle.limits.specs.Limits.{heaviest}
use Rattle.compiler.specs.Faults.{Refused}

-- the text is refused with this number, at this place
abbrev pub Refuses : List ℕ → ℕ → ℕ → Type 0
Refuses text number at = (r : Refusal) × Refused text r × (number_of r ≡ number) × (place_of r ≡ Some at)

-- the text is read and is light enough, and these are the ends of its form in the recording, each by its line and its column, in order
abbrev pub Lists : List ℕ → List ℕ → List (ℕ × ℕ) → Type 0
Lists text recording ends =
    (F : Form) × (es : List Place) × Settles text (accepted F) × (weight F ≤ heaviest) × Ends recording F es
    × (map (λ e. (e.line, e.column)) es ≡ ends)

pub record WorkedExamples : Type 0 where
  -- MatchStar on eight places: marks 2 and class 14 give 30 and bit 0; no marks, class 255 and a carry give 255 and bit 1
  pub match_star : Examples
  -- a form is wanted where the closing bracket stands
  pub seek_alone : Refuses (codes "(seek)") 4 5
  -- an empty recording has no line, so that even the empty quote ends nowhere in it
  pub none : Lists (codes "(seek \"\")") [] []
  pub every : Lists (codes "(seek \"\")") (codes "a") ((1, 0) ∷ (1, 1) ∷ [])
  -- a line of # alone
  pub whole : Lists (codes "(seek (seq (start) (star \"#\") (end)))") (codes "##\n#.") ((1, 2) ∷ [])
  -- two or three # between dots, and not four
  pub three : Lists (codes "(seek (seq \".\" (rep 2 3 \"#\") \".\"))") (codes ".###.") ((1, 5) ∷ [])
  pub four : Lists (codes "(seek (seq \".\" (rep 2 3 \"#\") \".\"))") (codes ".####.") []
  -- one byte that is no dot: the a, and not the line feed behind it
  pub other : Lists (codes "(seek (out 2E))") (codes ".a\n") ((1, 2) ∷ [])
  -- a star of what may be empty
  pub stars : Lists (codes "(seek (star (star \"a\")))") (codes "ba") ((1, 0) ∷ (1, 1) ∷ (1, 2) ∷ [])
