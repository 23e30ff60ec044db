-- What a recording's reader holds after some of its bytes, and what the calls answer. Assumes nothing.
use Rattle.std.specs.Prelude.{◌≡◌, ℕ, ◌+◌, ◌<◌, ◌≤◌, ◌⊎◌, List, ◌++◌, length, take, drop, Ok, Err, Result, slice_index}
use Rattle.refusal.specs.declared.Refusal.{Refusal}
use Rattle.refusal.specs.declared.Refusal.TheVariants.{TooFewBlocks, RecordingTooLong, TableTooShort}
use Rattle.refusal.specs.declared.ends.End.{End}
use Rattle.flash.specs.declared.reader.Flashes.{Flashes}
use Rattle.flash.specs.Flashes.{lit_before, line_at, column_at, between, longest, flashes}

-- the reader has read the bytes of b before its position
pub record Tells (s : Flashes) (b : List ℕ) : Type 0 where
  pub lit : s.lit ≡ lit_before b s.here.position
  pub line : s.here.line.number ≡ line_at b s.here.position
  pub column : s.here.line.start + column_at b s.here.position ≡ s.here.position

-- the piece is what b holds from position p on
abbrev pub Holds : List ℕ → ℕ → List ℕ → Type 0
Holds b p piece = (i : ℕ) → i < length piece → slice_index b (p + i) ≡ slice_index piece i

-- Whatever the recording b: if the reader was at a position of it, and was fed what stands there, then it has moved behind
-- that, and the table has the ends between, behind the first `count` that it had.
pub record Fed (old new : Flashes) (piece : List ℕ) (before after : List End) (count n : ℕ) : Type 0 where
  pub moved : new.here.position ≡ old.here.position + length piece
  pub grown : count ≤ n
  pub few : n ≤ count + length piece
  pub tells : (b : List ℕ) → Tells old b → Holds b old.here.position piece → Tells new b
  pub ends : (b : List ℕ) → Tells old b → Holds b old.here.position piece → take n after ≡ take count before ++ between b old.here.position (length piece)
  pub rest : drop n after ≡ drop n before

-- why bytes are refused: too few blocks, too many bytes in all, then fewer places for ends than bytes and `spare` more
abbrev pub Declines : ℕ → ℕ → ℕ → ℕ → ℕ → Refusal → Type 0
Declines blocks position bytes spare room e =
    ((blocks < 8) × (e ≡ TooFewBlocks))
    ⊎ ((8 ≤ blocks) × (longest < position + bytes) × (e ≡ RecordingTooLong))
    ⊎ ((8 ≤ blocks) × (position + bytes ≤ longest) × (room < bytes + spare) × (e ≡ TableTooShort))

abbrev pub Agrees : ℕ → ℕ → ℕ → ℕ → ℕ → Result (Unit {0}) Refusal → Type 0
Agrees blocks position bytes spare room (Ok _) = (8 ≤ blocks) × (position + bytes ≤ longest) × (bytes + spare ≤ room)
Agrees blocks position bytes spare room (Err e) = Declines blocks position bytes spare room e

-- what one block answers and leaves; nothing is refused there
abbrev pub ReadsBlock : Flashes → Flashes → List ℕ → List End → List End → ℕ → Result ℕ Refusal → Type 0
ReadsBlock old new bytes before after count (Ok n) = Fed old new bytes before after count n
ReadsBlock old new bytes before after count (Err e) = ⊥

-- what `feed` answers and leaves: the reader, the table of ends and, where it refuses, the blocks
abbrev pub Feeds : {B : Type 0} → Flashes → Flashes → List ℕ → List B → List B → List End → List End → Result ℕ Refusal → Type 0
Feeds old new piece blocks working before after (Ok n) =
    (8 ≤ length blocks) × (old.here.position + length piece ≤ longest) × (length piece + 0 ≤ length before) × Fed old new piece before after 0 n
Feeds old new piece blocks working before after (Err e) =
    Declines (length blocks) old.here.position (length piece) 0 (length before) e × (new ≡ old) × (working ≡ blocks) × (after ≡ before)

-- what `list_flashes` answers and leaves: all ends of the recording
abbrev pub Lists : {B : Type 0} → List ℕ → List B → List B → List End → List End → Result ℕ Refusal → Type 0
Lists recording blocks working before after (Ok n) =
    (8 ≤ length blocks) × (length recording ≤ longest) × (length recording + 1 ≤ length before) × (take n after ≡ flashes recording) × (drop n after ≡ drop n before)
Lists recording blocks working before after (Err e) =
    Declines (length blocks) 0 (length recording) 1 (length before) e × (working ≡ blocks) × (after ≡ before)
