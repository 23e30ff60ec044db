-- The same ends read off the recording's positions, with no cut into lines: what a search over blocks of bytes works with.
-- Assumes nothing.
use Rattle.std.specs.Prelude.{◌≡◌, ℕ, zero, suc, ◌-◌, ◌<◌, ◌≤◌, Bool, true, cond, not, ◌&&◌, T, ◌⊎◌, ◌↔◌, List, [], ◌∷◌, ◌++◌, length, ◌==◌, slice_index_or}
use Rattle.form.specs.Form.{Form, Forms, quote, set, out, seq, or, star, rep, start, end, nil, cons}
use Rattle.form.specs.Meaning.{feed, inside, outside, Joins}
use Rattle.form.specs.Lines.{Place, IsEnd}

-- A tape has a byte at every position. A line starts at the tape's start and behind each line feed.
abbrev pub opens : (ℕ → ℕ) → ℕ → Bool
opens t zero = true
opens t (suc p) = t p == feed

-- one byte of the class: no class holds a line feed, so that no match leaves its line
abbrev pub Step : (ℕ → ℕ) → (ℕ → Bool) → ℕ → ℕ → Type 0
Step t class s p = (p ≡ suc s) × T (class (t s))

-- the class of one quoted byte
abbrev pub only : ℕ → ℕ → Bool
only quoted byte = byte == quoted && not (byte == feed)

abbrev pub Spells : (ℕ → ℕ) → List ℕ → ℕ → ℕ → Type 0
Spells t [] s p = s ≡ p
Spells t (byte ∷ bytes) s p = (q : ℕ) × Step t (only byte) s q × Spells t bytes q p

abbrev mutual
  -- the form matches the tape from s to p
  pub Matches : (ℕ → ℕ) → Form → ℕ → ℕ → Type 0
  Matches t (quote bytes) s p = Spells t bytes s p
  Matches t (set items) s p = Step t (inside items) s p
  Matches t (out items) s p = Step t (outside items) s p
  Matches t (seq parts) s p = MatchAll t parts s p
  Matches t (or parts) s p = MatchAny t parts s p
  Matches t (star part) s p = (k : ℕ) × Joins (Matches t part) k s p
  Matches t (rep least most part) s p = (k : ℕ) × (least ≤ k) × (k ≤ most) × Joins (Matches t part) k s p
  Matches t start s p = (s ≡ p) × T (opens t s)
  Matches t end s p = (s ≡ p) × T (t s == feed)

  pub MatchAll : (ℕ → ℕ) → Forms → ℕ → ℕ → Type 0
  MatchAll t nil s p = s ≡ p
  MatchAll t (cons part parts) s p = (q : ℕ) × Matches t part s q × MatchAll t parts q p

  pub MatchAny : (ℕ → ℕ) → Forms → ℕ → ℕ → Type 0
  MatchAny t nil s p = ⊥
  MatchAny t (cons part parts) s p = Matches t part s p ⊎ MatchAny t parts s p

-- some match ends at p
abbrev pub Ending : (ℕ → ℕ) → Form → ℕ → Type 0
Ending t F p = (s : ℕ) × Matches t F s p

-- a recording as a tape: behind its bytes there are line feeds
abbrev pub tape : List ℕ → ℕ → ℕ
tape recording p = slice_index_or recording p feed

-- the tape begins with these bytes, and may go on with any
abbrev pub Holds : (ℕ → ℕ) → List ℕ → Type 0
Holds t bytes = (i : ℕ) → i < length bytes → t i ≡ tape bytes i

-- the recording with a line feed behind its last line, where that has none
abbrev pub closed : List ℕ → List ℕ
closed recording = recording ++ cond (opens (tape recording) (length recording)) [] (feed ∷ [])

-- the line of the position p, from 1, and the position at which that line starts
abbrev pub line_at : (ℕ → ℕ) → ℕ → ℕ
line_at t zero = 1
line_at t (suc p) = cond (t p == feed) (suc (line_at t p)) (line_at t p)

abbrev pub start_at : (ℕ → ℕ) → ℕ → ℕ
start_at t zero = 0
start_at t (suc p) = cond (t p == feed) (suc p) (start_at t p)

abbrev pub place_at : (ℕ → ℕ) → ℕ → Place
place_at t p = record { line = line_at t p; column = p - start_at t p; position = p }

-- The ends of a recording are the positions of its closed bytes at which some match ends.
abbrev pub PositionsAgree : Type 0
PositionsAgree =
    (recording : List ℕ) (F : Form) (e : Place) →
    IsEnd recording F e ↔
    ((e.position < length (closed recording)) × Ending (tape recording) F e.position
    × (e ≡ place_at (tape recording) e.position))
