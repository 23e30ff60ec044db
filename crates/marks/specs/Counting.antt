-- Lines counted by the line feeds of a block, on any tape that has them. Assumes nothing.
use Rattle.std.specs.Prelude.{◌≡◌, ℕ, ◌+◌, ◌<◌, ◌≤◌, Bool, true, false, ◌⊎◌, List, Some, None, Option, Ok, Err, Result, ◌==◌}
use Rattle.block.specs.Rows.{bit}
use Rattle.form.specs.Lines.{Place}
use Rattle.form.specs.Meaning.{feed}
use Rattle.form.specs.Positions.{line_at, start_at, place_at}
use Rattle.refusal.specs.declared.Refusal.{Refusal}
use Rattle.refusal.specs.declared.Refusal.TheVariants.{RecordingTooLong}
use Rattle.refusal.specs.declared.ends.End.{End}
use Rattle.marks.specs.Bounds.{farthest}
use Rattle.marks.specs.declared.count.Lines.{Lines}
use Rattle.marks.specs.declared.line.Line.{Line}
use Rattle.marks.specs.declared.line.Spot.{Spot}

-- a place as a record of the program
abbrev pub end_of : Place → End
end_of e = record { line = e.line; column = e.column; position = e.position }

-- the first w places of a row are the line feeds of the tape from the position `base` on
abbrev pub FeedsAt : (ℕ → ℕ) → (base w : ℕ) → List Bool → Type 0
FeedsAt t base w bits = (i : ℕ) → i < w → bit bits i ≡ (t (base + i) == feed)

-- the line of the position p
pub record Counted (t : ℕ → ℕ) (l : Line) (p : ℕ) : Type 0 where
  pub line : l.number ≡ line_at t p
  pub start : l.start ≡ start_at t p

-- the lines of the tape are counted to where l stands, in a block of w places
pub record Counts {B : Type 0} (row : B → List Bool) (w : ℕ) (t : ℕ → ℕ) (l : Lines B) : Type 0 where
  pub feeds : FeedsAt t l.base w (row l.feeds)
  pub line : l.line.number ≡ line_at t (l.base + l.at)
  pub start : l.line.start ≡ start_at t (l.base + l.at)

-- at the first place of a recording's first block
pub record AtFirst {B : Type 0} (given : B) (l : Lines B) : Type 0 where
  pub feeds : l.feeds ≡ given
  pub base : l.base ≡ 0
  pub at : l.at ≡ 0
  pub number : l.line.number ≡ 1
  pub start : l.line.start ≡ 0

-- what `at` answers: the first place of a block that begins here
pub record BeginsAt {B : Type 0} (row : B → List Bool) (given : B) (here : Spot) (l : Lines B) : Type 0 where
  pub near : here.position ≤ farthest
  pub feeds : l.feeds ≡ given
  pub base : l.base ≡ here.position
  pub at : l.at ≡ 0
  pub line : l.line ≡ here.line
  pub counts : (w : ℕ) (t : ℕ → ℕ) → FeedsAt t here.position w (row given) → Counted t here.line here.position → Counts row w t l

abbrev pub Begins : {B : Type 0} → (B → List Bool) → B → Spot → Result (Lines B) Refusal → Type 0
Begins row feeds here (Ok l) = BeginsAt row feeds here l
Begins row feeds here (Err e) = (farthest < here.position) × (e ≡ RecordingTooLong)

-- moved on to the place p of the same block
pub record Moves {B : Type 0} (row : B → List Bool) (w : ℕ) (old new : Lines B) (p : ℕ) : Type 0 where
  pub feeds : new.feeds ≡ old.feeds
  pub base : new.base ≡ old.base
  pub at : new.at ≡ p
  pub counts : (t : ℕ → ℕ) → Counts row w t old → Counts row w t new

-- what `place` answers and leaves
abbrev pub Placed : {B : Type 0} → (B → List Bool) → (w : ℕ) → (old new : Lines B) → (p : ℕ) → Option End → Type 0
Placed row w old new p (Some e) =
    (old.at ≤ p) × (p < w) × Moves row w old new p × ((t : ℕ → ℕ) → Counts row w t old → e ≡ end_of (place_at t (old.base + p)))
Placed row w old new p None = ((p < old.at) ⊎ (w ≤ p)) × (new ≡ old)

-- what `next` answers and leaves
abbrev pub Nexts : {B : Type 0} → (B → List Bool) → (w : ℕ) → B → (old new : Lines B) → Bool → Type 0
Nexts row w feeds old new true =
    (old.at ≤ w) × (old.base + w ≤ farthest) × (new.feeds ≡ feeds) × (new.base ≡ old.base + w) × (new.at ≡ 0)
    × ((t : ℕ → ℕ) → Counts row w t old → FeedsAt t (old.base + w) w (row feeds) → Counts row w t new)
Nexts row w feeds old new false = ((w < old.at) ⊎ (farthest < old.base + w)) × (new ≡ old)
