-- The ends of a recording that still runs: whether a position is an end depends on no byte behind it. Assumes nothing.
use Rattle.std.specs.Prelude.{◌≡◌, ℕ, zero, suc, ◌+◌, ◌<◌, ◌≤◌, Bool, cond, T, ◌↔◌, List, [], ◌∷◌, ◌++◌, length}
use Rattle.form.specs.Form.{Form}
use Rattle.form.specs.Lines.{Place, IsEnd, Has, Rising, Ends}
use Rattle.form.specs.Positions.{Ending, closed, Holds, place_at}

-- es are the ends of the recording at positions below n, in order
pub record EndsBelow (recording : List ℕ) (F : Form) (n : ℕ) (es : List Place) : Type 0 where
  pub rising : Rising es
  pub sound : (e : Place) → Has e es → IsEnd recording F e × (e.position < n)
  pub full : (e : Place) → IsEnd recording F e → e.position < n → Has e es

-- es are the ends at positions of these bytes, whatever follows them
abbrev pub EarlyEnds : List ℕ → Form → List Place → Type 0
EarlyEnds bytes F es = (rest : List ℕ) → EndsBelow (bytes ++ rest) F (length bytes) es

-- `all` is es and then only ends from the position n on
abbrev pub Begins : List Place → ℕ → List Place → Type 0
Begins es n all = (later : List Place) × (all ≡ es ++ later) × ((e : Place) → Has e later → n ≤ e.position)

-- bytes have their early ends, and only one list of them
abbrev pub EarlyExist : Type 0
EarlyExist = (bytes : List ℕ) (F : Form) → (es : List Place) × EarlyEnds bytes F es

abbrev pub EarlyUnique : Type 0
EarlyUnique = (bytes : List ℕ) (F : Form) (es fs : List Place) → EarlyEnds bytes F es → EarlyEnds bytes F fs → es ≡ fs

-- they are the first ends of every recording that begins with the bytes
abbrev pub EarlyFirst : Type 0
EarlyFirst =
    (bytes rest : List ℕ) (F : Form) (es all : List Place) →
    EarlyEnds bytes F es →
    Ends (bytes ++ rest) F all →
    Begins es (length bytes) all

-- more bytes add to them at the end
abbrev pub EarlyGrow : Type 0
EarlyGrow =
    (bytes more : List ℕ) (F : Form) (es fs : List Place) →
    EarlyEnds bytes F es →
    EarlyEnds (bytes ++ more) F fs →
    Begins es (length bytes) fs

-- a recording that is closed has no ends but the early ones of its bytes and, where its last line lacks it, a line feed
abbrev pub ClosedEnds : Type 0
ClosedEnds = (recording : List ℕ) (F : Form) (es : List Place) → Ends recording F es ↔ EarlyEnds (closed recording) F es

-- the early ends by positions, on any tape that begins with the bytes
abbrev pub EarlyPositions : Type 0
EarlyPositions =
    (bytes rest : List ℕ) (F : Form) (t : ℕ → ℕ) →
    Holds t bytes →
    (e : Place) →
    e.position < length bytes →
    IsEnd (bytes ++ rest) F e ↔ (Ending t F e.position × (e ≡ place_at t e.position))

-- the places of the positions, of `count` from a on, that are marked
abbrev pub places_from : (ℕ → ℕ) → (ℕ → Bool) → (a count : ℕ) → List Place
places_from t mark a zero = []
places_from t mark a (suc count) = cond (mark a) (place_at t a ∷ places_from t mark (suc a) count) (places_from t mark (suc a) count)

-- No bytes have no early ends; and where the positions of more bytes are marked just where a match ends, the marked places come on
-- behind the early ends so far.
abbrev pub EarlyNone : Type 0
EarlyNone = (F : Form) → EarlyEnds [] F []

abbrev pub EarlyNext : Type 0
EarlyNext =
    (bytes more : List ℕ) (F : Form) (es : List Place) (t : ℕ → ℕ) (mark : ℕ → Bool) →
    EarlyEnds bytes F es →
    Holds t (bytes ++ more) →
    ((p : ℕ) → length bytes ≤ p → p < length bytes + length more → T (mark p) ↔ Ending t F p) →
    EarlyEnds (bytes ++ more) F (es ++ places_from t mark (length bytes) (length more))
