-- One block of a tape, matched by the program of a form. Assumes nothing.
use Rattle.std.specs.Prelude.{◌≡◌, ℕ, ◌+◌, ◌-◌, ◌<◌, ◌≤◌, Bool, false, T, ◌↔◌}
use Rattle.block.specs.Rows.{bit}
use Rattle.block.specs.Calls.{none_row, all_row, Advance}
use Rattle.form.specs.Form.{Form}
use Rattle.form.specs.Positions.{opens, Ending}
use Rattle.theory.specs.Block.{start_row, feed_row}
use Rattle.theory.specs.Passes.{stars}
use Rattle.theory.specs.Whole.{Carried}
use Rattle.theory.specs.Written.{streams, written}
use Rattle.program.specs.Machine.{Machine, repeated}
use Rattle.program.specs.Numbered.{carries_of}
use Rattle.program.specs.Compile.{feeds_at, stars_at, Ruled}
use Rattle.program.specs.Sizes.{class_count, form_program, brackets}

-- at the position a the bits stand for the matches of F from before it: what they complete to is just what those do
abbrev pub Standing : Form → (ℕ → ℕ) → ℕ → (ℕ → Bool) → Type 0
Standing F t a bits = Carried (streams F t) a (written F) (carries_of (written F) 0 bits)

-- before the first byte no bit is set
abbrev pub FirstStanding : Type 0
FirstStanding = (F : Form) (t : ℕ → ℕ) → Standing F t 0 (λ k. false)

-- the machine after j repetitions and one more, with every place marked
abbrev pub matched : Form → (w : ℕ) → (ℕ → Bool) → Machine → ℕ → Machine
matched F w ins x j = repeated w ins (form_program F) (all_row w) x j

-- A block of w places from b on: where the machine begins with the rows of the form's classes, of line starts and of line feeds, with
-- empty stars' rows and anything else, and in its last repetition no star adds to its row, its marks are just the positions at which
-- a match of the form ends, and its carries stand for the matches from before the block's end.
abbrev pub FormBlock : Type 0
FormBlock =
    (F : Form) →
    brackets F ≤ feeds_at →
    (t : ℕ → ℕ) (b w : ℕ) →
    0 < w →
    (ins : ℕ → Bool) →
    Standing F t b ins →
    (x : Machine) →
    Ruled (streams F t) b w (class_count F) x.rows →
    ((i : ℕ) → stars_at (class_count F) ≤ i → i < stars_at (class_count F) + stars (written F) → x.rows i ≡ none_row w) →
    (j : ℕ) →
    (matched F w ins x j).changed ≡ false →
    ((p : ℕ) → b ≤ p → p < b + w → T (bit (matched F w ins x j).marks (p - b)) ↔ Ending t F p)
    × Standing F t (b + w) (matched F w ins x j).carries

-- the line starts are the line feeds, one place on; one more bit carries them over a border
abbrev pub LineStarts : Type 0
LineStarts =
    (F : Form) (t : ℕ → ℕ) (b w : ℕ) →
    0 < w →
    Advance w (feed_row (streams F t) b w) (opens t b) (start_row (streams F t) b w) (opens t (b + w))
