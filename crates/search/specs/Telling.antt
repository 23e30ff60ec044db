-- How a search stands to what was asked of it and what it answered. Assumes nothing.
use Rattle.std.specs.Prelude.{◌≡◌, ℕ, ◌<◌, ◌≤◌, Bool, true, false, List, [], ◌∷◌, ◌++◌, length, Some, None, Ok, Err, Option, Result}
use Rattle.limits.specs.Limits.{longest_recording, need}
use Rattle.form.specs.Form.{Form, weight}
use Rattle.form.specs.Lines.{Place}
use Rattle.form.specs.Positions.{closed}
use Rattle.refusal.specs.declared.ends.End.{End}
use Rattle.refusal.specs.declared.Refusal.{Refusal}
use Rattle.history.specs.Calls as history
use Rattle.history.specs.Calls.{Asked, Told, Event, History, state_of, taken_of, drawn_of, dry}
use Rattle.history.specs.Law.{Law}
use Rattle.history.specs.Rules.{Stands, Right}
use Rattle.search.specs.Finding.{Blank, Finds, Goes, Kept}
use Rattle.search.specs.declared.calls.State.{State}
use Rattle.search.specs.declared.calls.State.TheVariants as state
use Rattle.search.specs.declared.calls.Call.{Call}
use Rattle.search.specs.declared.calls.Call.TheVariants as call
use Rattle.search.specs.declared.calls.Answer.{Answer}
use Rattle.search.specs.declared.calls.Answer.TheVariants as answer
use Rattle.search.specs.declared.state.Search.{Search}

-- the calls and answers of the code, as the history has them: a call with so many working blocks

abbrev pub state_is : State → history.State
state_is state.Empty = history.Empty
state_is state.Open = history.Open
state_is state.Closed = history.Closed

abbrev pub asked : Call → ℕ → Asked
asked (call.Load text) blocks = history.load text.now
asked call.Rewind blocks = history.rewind
asked (call.Feed piece) blocks = history.feed piece.now blocks
asked call.Draw blocks = history.draw
asked call.Close blocks = history.close blocks
asked call.Taken blocks = history.taken
asked call.Weight blocks = history.weight
asked call.Waiting blocks = history.waiting

abbrev pub place_of : End → Place
place_of e = record { line = e.line; column = e.column; position = e.position }

abbrev pub drawn : Option End → Told
drawn None = history.none
drawn (Some e) = history.found (place_of e)

module _ {B : Type 0} (row : B → List Bool) where
  abbrev pub said : Answer B → Told
  said answer.Done = history.done
  said (answer.Took n) = history.took n
  said (answer.Drawn o) = drawn o
  said (answer.Count n) = history.count n
  said (answer.Block b) = history.shown (row b)

  abbrev pub told : Result (Answer B) Refusal → Told
  told (Ok a) = said a
  told (Err e) = history.refused e

-- only feed and close write to the working blocks
abbrev pub works : Asked → Bool
works (history.feed piece blocks) = true
works (history.close blocks) = true
works _ = false

-- these calls only ask
abbrev pub asks : Asked → Bool
asks history.taken = true
asks history.weight = true
asks history.waiting = true
asks _ = false

abbrev pub is_refused : Told → Bool
is_refused (history.refused r) = true
is_refused _ = false

abbrev pub gathered_of : {B : Type 0} → Search B → List ℕ
gathered_of s = s.gathered.items

module _ {B : Type 0} (row : B → List Bool) (w : ℕ) where
  -- an open search has taken these bytes, has handed out the ends hs, and the ends ws wait: it has matched whole blocks, and gathered the rest
  pub record Running (s : Search B) (F : Form) (bytes : List ℕ) (hs ws : List Place) : Type 0 where
    pub matched : List ℕ
    pub finds : Finds row w s.finder F matched hs ws
    pub goes : Goes row w s.finder F matched
    pub parts : bytes ≡ matched ++ gathered_of s
    pub short : length (gathered_of s) < w
    pub taken : s.taken ≡ length bytes
    pub few : length bytes ≤ longest_recording

  -- a closed one has matched all of them
  pub record Ended (s : Search B) (F : Form) (bytes : List ℕ) (hs ws : List Place) : Type 0 where
    pub finds : Finds row w s.finder F (closed bytes) hs ws
    pub taken : s.taken ≡ length bytes
    pub few : length bytes ≤ longest_recording

  -- an empty one holds nothing
  pub record Unloaded (s : Search B) : Type 0 where
    pub blank : Blank row w s.finder
    pub taken : s.taken ≡ 0

  abbrev pub Holds : history.State → Search B → Form → List ℕ → (hs ws : List Place) → Type 0
  Holds history.Empty s F bytes hs ws = Unloaded s
  Holds history.Open s F bytes hs ws = Running s F bytes hs ws
  Holds history.Closed s F bytes hs ws = Ended s F bytes hs ws

  -- the search s stands where the history h has brought it
  pub record Tells (s : Search B) (h : History) : Type 0 where
    pub form : Form
    pub waits : List Place
    pub state : state_is s.state ≡ state_of h
    pub stands : Stands w h form waits
    pub dried : dry h ≡ true → waits ≡ []
    pub holds : Holds (state_of h) s form (taken_of h) (drawn_of h) waits

  -- t is as s was, but for the room in which a text is read
  pub record Left (s t : Search B) : Type 0 where
    pub state : t.state ≡ s.state
    pub finder : Kept row w s.finder t.finder
    pub gathered : t.gathered ≡ s.gathered
    pub taken : t.taken ≡ s.taken

  -- After the history h the call a with these working blocks has the right answer t, the search still tells its history, and the law
  -- holds. A refused call leaves all as it was, as does one that only asks; and only feed and close write to the working blocks.
  pub record Performs (s u : Search B) (old new : List B) (h : History) (a : Asked) (t : Told) : Type 0 where
    pub right : Right w h a t
    pub tells : Tells u (record { asked = a; told = t } ∷ h)
    pub law : Law w (record { asked = a; told = t } ∷ h)
    pub refused : is_refused t ≡ true → Left s u × (new ≡ old)
    pub asking : asks a ≡ true → Left s u
    pub idle : works a ≡ false → new ≡ old

  -- whatever the history that has brought s there, the call a has the right answer t, and s becomes u
  abbrev pub Serves : (s u : Search B) (old new : List B) → Asked → Told → Type 0
  Serves s u old new a t = (h : History) → Tells s h → Performs s u old new h a t

  -- and the working blocks are left, whatever they hold
  abbrev pub ServesIdly : (s u : Search B) → Asked → Told → Type 0
  ServesIdly s u a t = (blocks : List B) → Serves s u blocks blocks a t

  -- P holds of the form that an open search seeks, of the bytes taken, and of the ends that wait
  abbrev pub WhereRuns : Search B → (Form → List ℕ → List Place → Type 0) → Type 0
  WhereRuns s P = (F : Form) (bytes : List ℕ) (hs ws : List Place) → Running s F bytes hs ws → P F bytes ws

  -- P holds of the form, of the bytes taken and of the ends handed out, where none waits and the working blocks are enough
  abbrev pub WhereReady : Search B → (blocks : ℕ) → (Form → List ℕ → List Place → Type 0) → Type 0
  WhereReady s blocks P = (F : Form) (bytes : List ℕ) (hs : List Place) → Running s F bytes hs [] → need (weight F) ≤ blocks → P F bytes hs

-- a check that refuses, or does not
abbrev pub as_result : Option Refusal → Result (Unit {0}) Refusal
as_result None = Ok tt
as_result (Some e) = Err e
