-- The one right answer of each call, from the calls and answers before it. Assumes nothing.
use Rattle.std.specs.Prelude.{◌≡◌, ℕ, ◌+◌, ◌-◌, ◌*◌, ◌/◌, ◌%◌, ◌<◌, ◌≤◌, Bool, true, false, ◌⊎◌, List, [], ◌∷◌, ◌++◌, length, take, Some, None, Option, nat_lt}
use Rattle.block.specs.Rows.{tab}
use Rattle.form.specs.Form.{Form}
use Rattle.form.specs.Form as form
use Rattle.form.specs.Lines.{Place, IsEnd}
use Rattle.form.specs.Positions.{closed}
use Rattle.form.specs.Running.{EarlyEnds}
use Rattle.refusal.specs.declared.Refusal.{Refusal}
use Rattle.refusal.specs.declared.Refusal.TheVariants.{KindTooWide, SearchEmpty, SearchClosed, EndsWaiting, TooFewBlocks, TooManyBytes, RecordingTooLong}
use Rattle.marks.specs.Among.{among}
use Rattle.limits.specs.Limits.{widest_kind, longest_piece, longest_recording, need}
use Rattle.compiler.specs.Faults.{Reads, Refused}
use Rattle.history.specs.Calls.{Asked, load, rewind, feed, draw, close, taken, weight, waiting, Told, refused, done, took, found, none, count, shown, History, State, Empty, Open, Closed, state_of, text_of, taken_of, drawn_of}
use Rattle.history.specs.Law.{Law}

-- the bytes that are matched: of a search that is open those of full blocks, of one that is closed all, with a line feed behind a last
-- line that has none
abbrev pub matched : ℕ → State → List ℕ → List ℕ
matched w Empty bytes = []
matched w Open bytes = take (length bytes - length bytes % w) bytes
matched w Closed bytes = closed bytes

-- the form that is sought, where there is one
abbrev pub Sought : State → List ℕ → Form → Type 0
Sought Empty text F = Unit {0}
Sought _ text F = Reads text F

-- after h the form F is sought, and the ends ws are matched and not drawn yet
pub record Stands (w : ℕ) (h : History) (F : Form) (ws : List Place) : Type 0 where
  pub sought : Sought (state_of h) (text_of h) F
  pub unfed : state_of h ≡ Empty → taken_of h ≡ []
  pub ends : EarlyEnds (matched w (state_of h) (taken_of h)) F (drawn_of h ++ ws)

-- the last of these bytes fills a block that holds an end, whatever follows
abbrev pub Fills : ℕ → Form → List ℕ → Type 0
Fills w F bytes =
    (length bytes % w ≡ 0)
    × ((e : Place) × (length bytes ≤ e.position + w) × (e.position < length bytes) × ((rest : List ℕ) → IsEnd (bytes ++ rest) F e))

-- behind these bytes a feed takes n bytes of the piece: the least count that fills a block holding an end, else all
pub record Stops (w : ℕ) (F : Form) (bytes piece : List ℕ) (n : ℕ) : Type 0 where
  pub within : n ≤ length piece
  pub least : (k : ℕ) → 0 < k → k < n → Fills w F (bytes ++ take k piece) → ⊥
  pub stop : n < length piece → (0 < n) × Fills w F (bytes ++ take n piece)

-- checks in order: the first that holds refuses
abbrev pub check : Bool → Refusal → Option Refusal → Option Refusal
check true r next = Some r
check false r next = next

-- the checks behind others: the first that refuses counts
abbrev pub behind : Option Refusal → Option Refusal → Option Refusal
behind (Some r) next = Some r
behind None next = next

abbrev pub some : List Place → Bool
some [] = false
some (e ∷ es) = true

-- why a rewind, a close with so many working blocks or a feed of so many bytes is refused, where ends wait and the text weighs n
abbrev pub rewind_refusal : State → Option Refusal
rewind_refusal Empty = Some SearchEmpty
rewind_refusal _ = None

abbrev pub close_refusal : State → (waits : Bool) → (n blocks : ℕ) → Option Refusal
close_refusal Empty waits n blocks = Some SearchEmpty
close_refusal Open waits n blocks = check waits EndsWaiting (check (nat_lt blocks (need n)) TooFewBlocks None)
close_refusal Closed waits n blocks = Some SearchClosed

-- what refuses a close refuses a feed, and then its length may, behind so many bytes
abbrev pub piece_refusal : (bytes piece : ℕ) → Option Refusal
piece_refusal bytes piece = check (nat_lt longest_piece piece) TooManyBytes (check (nat_lt longest_recording (bytes + piece)) RecordingTooLong None)

abbrev pub feed_refusal : State → (waits : Bool) → (n bytes piece blocks : ℕ) → Option Refusal
feed_refusal s waits n bytes piece blocks = behind (close_refusal s waits n blocks) (piece_refusal bytes piece)

-- a refused call says why, and of one that is not P holds
abbrev pub By : Option Refusal → Type 0 → Told → Type 0
By (Some r) P t = t ≡ refused r
By None P t = P

-- what load answers: a kind that is too wide is refused first, then the text for the reason that the grammar and its weight give
abbrev pub Loads : ℕ → List ℕ → Told → Type 0
Loads w text (refused r) = ((widest_kind < w) × (r ≡ KindTooWide)) ⊎ ((w ≤ widest_kind) × Refused text r)
Loads w text done = (w ≤ widest_kind) × ((F : Form) × Reads text F)
Loads w text _ = ⊥

-- what an accepted feed answers
abbrev pub Feeds : ℕ → Form → List ℕ → List ℕ → Told → Type 0
Feeds w F bytes piece (took n) = Stops w F bytes piece n
Feeds w F bytes piece _ = ⊥

-- the next end that waits
abbrev pub next : List Place → Told
next [] = none
next (e ∷ es) = found e

abbrev pub weighs : State → Form → ℕ
weighs Empty F = 0
weighs _ F = form.weight F

-- the position of the first place of the block matched last
abbrev pub last_block_of : ℕ → List ℕ → ℕ
last_block_of w bytes = w * ((length bytes - 1) / w)

-- that block, with ones just at the ends that wait; all zeros where none was matched
abbrev pub waiting_row : ℕ → List ℕ → List Place → List Bool
waiting_row w bytes ws = tab w (λ i. among ws (last_block_of w bytes + i))

-- the answer of a search in this state, that seeks F and has taken these bytes, and where these ends wait
abbrev pub Answers : ℕ → State → Form → List ℕ → List Place → Asked → Told → Type 0
Answers w s F bytes ws (load text) t = Loads w text t
Answers w s F bytes ws rewind t = By (rewind_refusal s) (t ≡ done) t
Answers w s F bytes ws (feed piece blocks) t =
    By (feed_refusal s (some ws) (weighs s F) (length bytes) (length piece) blocks) (Feeds w F bytes piece t) t
Answers w s F bytes ws draw t = t ≡ next ws
Answers w s F bytes ws (close blocks) t = By (close_refusal s (some ws) (weighs s F) blocks) (t ≡ done) t
Answers w s F bytes ws taken t = t ≡ count (length bytes)
Answers w s F bytes ws weight t = t ≡ count (weighs s F)
Answers w s F bytes ws waiting t = t ≡ shown (waiting_row w (matched w s bytes) ws)

-- after h the answer t to a is the right one
pub record Right (w : ℕ) (h : History) (a : Asked) (t : Told) : Type 0 where
  pub form : Form
  pub waits : List Place
  pub stands : Stands w h form waits
  pub answers : Answers w (state_of h) form (taken_of h) waits a t

-- each answer was right
abbrev pub Rightly : ℕ → History → Type 0
Rightly w [] = Unit {0}
Rightly w (x ∷ h) = Right w h x.asked x.told × Rightly w h

-- each answer was right, and the law held after each
abbrev pub Lawful : ℕ → History → Type 0
Lawful w [] = Law w []
Lawful w (x ∷ h) = Right w h x.asked x.told × Law w (x ∷ h) × Lawful w h

-- the law follows from right answers
abbrev pub LawFollows : Type 0
LawFollows = (w : ℕ) → 0 < w → (h : History) → Rightly w h → Lawful w h

-- and a call has no other right answer
abbrev pub RightOnce : Type 0
RightOnce = (w : ℕ) (h : History) (a : Asked) (t u : Told) → Right w h a t → Right w h a u → t ≡ u
