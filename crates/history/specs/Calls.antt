-- What was asked of a search and what it answered: the newest first. It knows nothing of the kind of block nor of what the working
-- blocks hold. Assumes nothing.
use Rattle.std.specs.Prelude.{ℕ, Bool, true, false, cond, List, [], ◌∷◌, ◌++◌, take}
use Rattle.form.specs.Lines.{Place}
use Rattle.refusal.specs.declared.Refusal.{Refusal}

-- a call: load has a text; feed a piece and so many working blocks; close so many working blocks
pub data Asked : Type 0 where
  load : List ℕ → Asked
  rewind : Asked
  feed : List ℕ → ℕ → Asked
  draw : Asked
  close : ℕ → Asked
  taken : Asked
  weight : Asked
  waiting : Asked

-- an answer: a load, a rewind or a close that is accepted is done; a feed took so many bytes; a draw found an end, or none; taken and
-- weight are counts; waiting is a row of bits
pub data Told : Type 0 where
  refused : Refusal → Told
  done : Told
  took : ℕ → Told
  found : Place → Told
  none : Told
  count : ℕ → Told
  shown : List Bool → Told

pub record Event : Type 0 where
  pub asked : Asked
  pub told : Told

abbrev pub History : Type 0
History = List Event

pub data State : Type 0 where
  Empty : State
  Open : State
  Closed : State

abbrev pub is_done : Told → Bool
is_done done = true
is_done _ = false

-- bytes, and behind them as many first ones of the piece as a feed took
abbrev pub fed : Told → List ℕ → List ℕ → List ℕ
fed (took n) bytes piece = bytes ++ take n piece
fed _ bytes piece = bytes

-- ends, and behind them the one that a draw found
abbrev pub handed : Told → List Place → List Place
handed (found e) ends = ends ++ e ∷ []
handed _ ends = ends

abbrev pub found_none : Told → Bool
found_none none = true
found_none _ = false

abbrev pub state_after : Asked → Told → State → State
state_after (load text) t s = cond (is_done t) Open s
state_after rewind t s = cond (is_done t) Open s
state_after (close blocks) t s = cond (is_done t) Closed s
state_after _ t s = s

abbrev pub text_after : Asked → Told → List ℕ → List ℕ
text_after (load text) t x = cond (is_done t) text x
text_after _ t x = x

abbrev pub taken_after : Asked → Told → List ℕ → List ℕ
taken_after (load text) t bytes = cond (is_done t) [] bytes
taken_after rewind t bytes = cond (is_done t) [] bytes
taken_after (feed piece blocks) t bytes = fed t bytes piece
taken_after _ t bytes = bytes

abbrev pub drawn_after : Asked → Told → List Place → List Place
drawn_after (load text) t ends = cond (is_done t) [] ends
drawn_after rewind t ends = cond (is_done t) [] ends
drawn_after draw t ends = handed t ends
drawn_after _ t ends = ends

abbrev pub dry_after : Asked → Told → Bool
dry_after draw t = found_none t
dry_after _ t = false

-- empty until a load is accepted; open after an accepted load or rewind; closed after an accepted close
abbrev pub state_of : History → State
state_of [] = Empty
state_of (x ∷ h) = state_after x.asked x.told (state_of h)

-- the text of the last accepted load
abbrev pub text_of : History → List ℕ
text_of [] = []
text_of (x ∷ h) = text_after x.asked x.told (text_of h)

-- the bytes taken since the last accepted load or rewind: of each feed's piece as many first bytes as it answered, joined in order
abbrev pub taken_of : History → List ℕ
taken_of [] = []
taken_of (x ∷ h) = taken_after x.asked x.told (taken_of h)

-- the ends handed out since then: the draws' answers other than none, in order
abbrev pub drawn_of : History → List Place
drawn_of [] = []
drawn_of (x ∷ h) = drawn_after x.asked x.told (drawn_of h)

-- the last call was a draw that found none
abbrev pub dry : History → Bool
dry [] = false
dry (x ∷ h) = dry_after x.asked x.told
