-- What a finder holds. Assumes nothing.
use Rattle.std.specs.Prelude.{◌≡◌, ℕ, ◌+◌, ◌-◌, ◌%◌, ◌<◌, ◌≤◌, Bool, false, ◌⊎◌, List, [], ◌∷◌, ◌++◌, length, Some, None, Ok, Err, vec_items, Option, Result, slice_index}
use Rattle.block.specs.Rows.{bit}
use Rattle.block.specs.Calls.{none_row}
use Rattle.stream.specs.Tables.{rows}
use Rattle.limits.specs.Limits.{widest_kind, longest_recording, need}
use Rattle.form.specs.Form.{Form, weight}
use Rattle.form.specs.Lines.{Place}
use Rattle.form.specs.Running.{EarlyEnds, places_from}
use Rattle.refusal.specs.declared.ends.End.{End}
use Rattle.refusal.specs.declared.Refusal.{Refusal}
use Rattle.refusal.specs.declared.Refusal.TheVariants.{KindTooWide}
use Rattle.compiler.specs.Faults.{Reads, Refused}
use Rattle.marks.specs.Counting.{end_of, FeedsAt, Counts, AtFirst, Nexts}
use Rattle.marks.specs.declared.count.Lines.{Lines}
use Rattle.machine.specs.Matching.{Loaded, Matched, Same}
use Rattle.history.specs.Rules.{last_block_of, some}
use Rattle.search.specs.declared.finder.Finder.{Finder}

-- a tape of bytes, with zeros behind the last
abbrev pub padded : List ℕ → ℕ → ℕ
padded bytes p = slice_index bytes p

-- Of the bytes m the block matched last is shown: its lines are counted up to a place before which no end waits, and the ends ws are at
-- its ones.
pub record Showing {B : Type 0} (row : B → List Bool) (w : ℕ) (lines : Lines B) (ends : List Bool) (m : List ℕ) (ws : List Place) : Type 0 where
  pub counts : Counts row w (padded m) lines
  pub base : lines.base ≡ last_block_of w m
  pub within : lines.at ≤ w
  pub drawn : (i : ℕ) → i < lines.at → bit ends i ≡ false
  pub waits : ws ≡ places_from (padded m) (λ q. bit ends (q - lines.base)) lines.base w

-- the lines of a block with these line feeds: of a recording's first block, or of the one behind the block with the lines k
abbrev pub Lined : {B : Type 0} → (B → List Bool) → ℕ → B → Option (Lines B) → Lines B → Type 0
Lined row w feeds None l = AtFirst feeds l × ((t : ℕ → ℕ) → FeedsAt t 0 w (row feeds) → Counts row w t l)
Lined row w feeds (Some k) l = (b : Bool) × Nexts row w feeds k l b

module _ {B : Type 0} (row : B → List Bool) (w : ℕ) where
  -- the ends of the block matched last that are not drawn yet
  abbrev pub ends_in : Finder B → List Bool
  ends_in x = rows row (vec_items x.ends) 0

  -- no block was matched
  pub record Blank (x : Finder B) : Type 0 where
    pub none : ends_in x ≡ none_row w
    pub lines : x.lines ≡ None

  -- x seeks F, has matched the bytes m and handed out the ends hs, and the ends ws wait
  pub record Finds (x : Finder B) (F : Form) (m : List ℕ) (hs ws : List Place) : Type 0 where
    pub loaded : Loaded F x.matcher
    pub narrow : w ≤ widest_kind
    pub few : length m ≤ longest_recording + 1
    pub early : EarlyEnds m F (hs ++ ws)
    pub blank : length m ≡ 0 → Blank x
    pub shown : 0 < length m → (l : Lines B) × (x.lines ≡ Some l) × Showing row w l (ends_in x) m ws

  -- it can go on from there with another block
  pub record Goes (x : Finder B) (F : Form) (m : List ℕ) : Type 0 where
    pub carried : Matched F m x.matcher
    pub full : length m % w ≡ 0

  -- P holds of what x seeks and has matched and handed out, and of what waits
  abbrev pub WhereFinds : Finder B → (Form → List ℕ → (hs ws : List Place) → Type 0) → Type 0
  WhereFinds x P = (F : Form) (m : List ℕ) (hs ws : List Place) → Finds x F m hs ws → P F m hs ws

  -- y is as x was, but for the room in which a text is read
  pub record Kept (x y : Finder B) : Type 0 where
    pub matcher : Same x.matcher y.matcher
    pub ends : y.ends ≡ x.ends
    pub lines : y.lines ≡ x.lines

  -- what loading answers and leaves
  abbrev pub LoadsText : List ℕ → Finder B → Finder B → Result (Unit {0}) Refusal → Type 0
  LoadsText text x y (Ok _) = (w ≤ widest_kind) × ((F : Form) × Reads text F × Finds y F [] [] [] × Goes y F [])
  LoadsText text x y (Err e) = (((widest_kind < w) × (e ≡ KindTooWide)) ⊎ ((w ≤ widest_kind) × Refused text e)) × Kept x y

  -- The next block, of some bytes, where no end waits: its ends wait, and it says whether there are any. A full block can be followed by
  -- another.
  abbrev pub MatchesMore : Finder B → Finder B → List ℕ → (blocks : ℕ) → Result Bool Refusal → Type 0
  MatchesMore x y piece blocks r =
      (F : Form) (m : List ℕ) (hs : List Place) → Finds x F m hs [] → Goes x F m → 0 < length piece → length piece ≤ w →
      need (weight F) ≤ blocks → length m + length piece ≤ longest_recording + 1 →
      (ws : List Place) × (r ≡ Ok (some ws)) × Finds y F (m ++ piece) hs ws × (length piece ≡ w → Goes y F (m ++ piece))

  -- the next end that waits is handed out, if there is one
  abbrev pub Draws : Finder B → Finder B → Option End → Type 0
  Draws x y None = (y ≡ x) × WhereFinds x (λ F m hs ws. ws ≡ [])
  Draws x y (Some e) =
      (Blank x → ⊥)
      × WhereFinds x (λ F m hs ws.
      (p : Place) × (vs : List Place) × (ws ≡ p ∷ vs) × (e ≡ end_of p) × Finds y F m (hs ++ p ∷ []) vs × (Goes x F m → Goes y F m))
