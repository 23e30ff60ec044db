-- What a matcher holds, and what the blocks that it matches show. Assumes nothing.
use Rattle.std.specs.Prelude.{◌≡◌, ℕ, ◌+◌, ◌-◌, ◌<◌, ◌≤◌, Bool, false, T, ◌⊎◌, ◌↔◌, List, [], ◌++◌, length, Ok, Err, Result, nat_eq, slice_index}
use Rattle.block.specs.Rows.{bit, tab}
use Rattle.limits.specs.Limits.{widest_kind, need}
use Rattle.form.specs.Form.{Form, weight}
use Rattle.form.specs.Meaning.{feed}
use Rattle.form.specs.Lines.{Place, IsEnd}
use Rattle.form.specs.Positions.{opens, tape, Holds, place_at}
use Rattle.refusal.specs.declared.Refusal.{Refusal}
use Rattle.refusal.specs.declared.Refusal.TheVariants.{KindTooWide, TooFewBlocks, TooManyBytes}
use Rattle.tree.specs.Stands as tree
use Rattle.program.specs.Compile.{feeds_at}
use Rattle.program.specs.Matched.{Standing}
use Rattle.program.specs.Sizes.{brackets}
use Rattle.emit.specs.Whole.{CompiledFrom}
use Rattle.machine.specs.Carrying.{entering}
use Rattle.machine.specs.declared.loaded.Matcher.{Matcher}
use Rattle.machine.specs.declared.shown.Shown.{Shown}

-- the matcher runs the program of F
pub record Runs (F : Form) (m : Matcher) : Type 0 where
  pub compiled : CompiledFrom F m.compiled m.sizes
  pub nested : brackets F ≤ feeds_at

-- it was loaded with F, which stands in its tree
pub record Loaded (F : Form) (m : Matcher) : Type 0 where
  pub runs : Runs F m
  pub stands : tree.Stands m.tree F m.root
  pub weighs : m.weight ≡ weight F

-- it has matched these bytes in full blocks: its carries stand for the matches from before the next block, whatever follows
pub record Matched (F : Form) (bytes : List ℕ) (m : Matcher) : Type 0 where
  pub runs : Runs F m
  pub carries : (t : ℕ → ℕ) → Holds t bytes → Standing F t (length bytes) (entering m.carries)
  pub starts : m.starts ≡ opens (tape bytes) (length bytes)

-- n has the form that m has
pub record Keeps (m n : Matcher) : Type 0 where
  pub tree : n.tree ≡ m.tree
  pub root : n.root ≡ m.root
  pub weight : n.weight ≡ m.weight
  pub compiled : n.compiled ≡ m.compiled
  pub sizes : n.sizes ≡ m.sizes

-- n is as m was, but for the room in which a text is read
pub record Same (m n : Matcher) : Type 0 where
  pub keeps : Keeps m n
  pub carries : n.carries ≡ m.carries
  pub starts : n.starts ≡ m.starts

-- The marks show just the ends, at the positions of a piece behind these bytes, of every recording that goes on from there, and none
-- behind the piece.
pub record Shows (F : Form) (bytes piece : List ℕ) (marks : List Bool) : Type 0 where
  pub ends :
      (rest : List ℕ) (e : Place) → length bytes ≤ e.position → e.position < length bytes + length piece →
      IsEnd ((bytes ++ piece) ++ rest) F e
      ↔ (T (bit marks (e.position - length bytes)) × (e ≡ place_at (tape (bytes ++ piece)) e.position))
  pub behind : (i : ℕ) → length piece ≤ i → bit marks i ≡ false

-- What the next block shows, whatever form the matcher runs and whatever it has matched before. A full block can be followed by
-- another; one that is not full ends the recording, and the matcher then stands at the start of one.
pub record MatchesNext (m n : Matcher) (piece : List ℕ) (w : ℕ) (marks : List Bool) : Type 0 where
  pub shows : (F : Form) (bytes : List ℕ) → Matched F bytes m → Shows F bytes piece marks
  pub full : length piece ≡ w → (F : Form) (bytes : List ℕ) → Matched F bytes m → Matched F (bytes ++ piece) n
  pub last : length piece < w → (F : Form) (bytes : List ℕ) → Matched F bytes m → Matched F [] n

-- why a block is refused, in this order: too wide a kind, too few working blocks, too many bytes
abbrev pub Declines : (w weight blocks bytes : ℕ) → Refusal → Type 0
Declines w weight blocks bytes e =
    ((widest_kind < w) × (e ≡ KindTooWide))
    ⊎ ((w ≤ widest_kind) × (blocks < need weight) × (e ≡ TooFewBlocks))
    ⊎ ((w ≤ widest_kind) × (need weight ≤ blocks) × (w < bytes) × (e ≡ TooManyBytes))

abbrev pub Agrees : (w weight blocks bytes : ℕ) → Result (Unit {0}) Refusal → Type 0
Agrees w weight blocks bytes (Ok _) = (w ≤ widest_kind) × (need weight ≤ blocks) × (bytes ≤ w)
Agrees w weight blocks bytes (Err e) = Declines w weight blocks bytes e

-- the places of a piece's line feeds
abbrev pub feeds_of : ℕ → List ℕ → List Bool
feeds_of w piece = tab w (λ i. nat_eq (slice_index piece i) feed)

-- what matching a block answers and leaves; what the working blocks then hold is free
abbrev pub MatchesBlock : {B : Type 0} → (B → List Bool) → ℕ → Matcher → Matcher → List ℕ → List B → List B → Result (Shown B) Refusal → Type 0
MatchesBlock row w m n piece old new (Ok r) =
    (w ≤ widest_kind) × (need m.weight ≤ length old) × (length piece ≤ w) × Keeps m n × (row r.feeds ≡ feeds_of w piece)
    × MatchesNext m n piece w (row r.ends)
MatchesBlock row w m n piece old new (Err e) = Declines w m.weight (length old) (length piece) e × (n ≡ m) × (new ≡ old)
