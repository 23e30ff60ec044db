-- A recording's lines, and its ends. Assumes nothing.
use Rattle.std.specs.Prelude.{◌≡◌, ℕ, suc, ◌+◌, ◌<◌, cond, ◌⊎◌, List, [], ◌∷◌, length, ◌==◌}
use Rattle.form.specs.Form.{Form}
use Rattle.form.specs.Meaning.{feed, Pairs}

-- one byte more at the front of the first line
abbrev pub begin : ℕ → List (List ℕ) → List (List ℕ)
begin byte [] = (byte ∷ []) ∷ []
begin byte (line ∷ rest) = (byte ∷ line) ∷ rest

-- A line feed closes a line and is part of none; the bytes after the last one, if any, are one more line.
abbrev pub lines : List ℕ → List (List ℕ)
lines [] = []
lines (byte ∷ rest) = cond (byte == feed) ([] ∷ lines rest) (begin byte (lines rest))

-- where an end stands: its line, counted from 1, its column, the count of the line's bytes before it, and its position, the count
-- of the recording's bytes before it
pub record Place : Type 0 where
  pub line : ℕ
  pub column : ℕ
  pub position : ℕ

-- e is an end of this line, which has this number and starts at this position: its column is the end of some pair
pub record LineEnd (F : Form) (number start : ℕ) (bytes : List ℕ) (e : Place) : Type 0 where
  pub line : e.line ≡ number
  pub position : e.position ≡ start + e.column
  pub pair : (s : ℕ) × Pairs bytes F s e.column

-- e is an end of one of these lines, of which the first has this number and starts at this position
abbrev pub SomeEnd : Form → (number start : ℕ) → List (List ℕ) → Place → Type 0
SomeEnd F number start [] e = ⊥
SomeEnd F number start (bytes ∷ rest) e =
    LineEnd F number start bytes e ⊎ SomeEnd F (suc number) (start + suc (length bytes)) rest e

abbrev pub IsEnd : List ℕ → Form → Place → Type 0
IsEnd recording F e = SomeEnd F 1 0 (lines recording) e

abbrev pub Has : {A : Type 0} → A → List A → Type 0
Has x [] = ⊥
Has x (y ∷ ys) = (x ≡ y) ⊎ Has x ys

-- each place stands before all that follow it
abbrev pub Rising : List Place → Type 0
Rising [] = Unit {0}
Rising (e ∷ es) = ((x : Place) → Has x es → e.position < x.position) × Rising es

-- es are the ends of the recording, in order
pub record Ends (recording : List ℕ) (F : Form) (es : List Place) : Type 0 where
  pub rising : Rising es
  pub sound : (e : Place) → Has e es → IsEnd recording F e
  pub full : (e : Place) → IsEnd recording F e → Has e es

-- every recording has its list of ends, and only one
abbrev pub EndsExist : Type 0
EndsExist = (recording : List ℕ) (F : Form) → (es : List Place) × Ends recording F es

abbrev pub EndsUnique : Type 0
EndsUnique = (recording : List ℕ) (F : Form) (es fs : List Place) → Ends recording F es → Ends recording F fs → es ≡ fs
