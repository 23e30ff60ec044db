-- The law over every list of calls on a search of blocks of w places. Assumes nothing.
use Rattle.std.specs.Prelude.{◌≡◌, ℕ, ◌+◌, ◌≤◌, true, List, [], ◌++◌, length}
use Rattle.form.specs.Form.{Form}
use Rattle.form.specs.Lines.{Place, IsEnd, Has, Ends}
use Rattle.compiler.specs.Faults.{Reads}
use Rattle.history.specs.Calls.{History, Empty, Open, Closed, state_of, text_of, taken_of, drawn_of, dry}

-- these are a recording's first ends: a beginning of its ends, empty and whole allowed
abbrev pub First : List Place → List Place → Type 0
First es all = (later : List Place) × (all ≡ es ++ later)

pub record Law (w : ℕ) (h : History) : Type 0 where
  -- while the search is empty every draw has found none
  pub unloaded : state_of h ≡ Empty → drawn_of h ≡ []
  -- while it is open, the ends handed out are the first ends of every recording that begins with the bytes taken
  pub running :
      state_of h ≡ Open → (F : Form) → Reads (text_of h) F → (rest : List ℕ) (all : List Place) → Ends (taken_of h ++ rest) F all →
      First (drawn_of h) all
  -- once it is closed, of exactly those bytes
  pub finished : state_of h ≡ Closed → (F : Form) → Reads (text_of h) F → (all : List Place) → Ends (taken_of h) F all → First (drawn_of h) all
  -- where the last call is a draw that finds none, a closed search has handed out all of them
  pub complete :
      state_of h ≡ Closed → dry h ≡ true → (F : Form) → Reads (text_of h) F → (all : List Place) → Ends (taken_of h) F all → drawn_of h ≡ all
  -- and an open one each end, of every such recording, that stands a block's width or more before the last byte taken
  pub prompt :
      state_of h ≡ Open → dry h ≡ true → (F : Form) → Reads (text_of h) F → (rest : List ℕ) (e : Place) → IsEnd (taken_of h ++ rest) F e →
      e.position + w ≤ length (taken_of h) → Has e (drawn_of h)
