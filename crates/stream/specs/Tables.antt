-- Tables of blocks, and the bytes that their first eight hold. Assumes nothing.
use Rattle.std.specs.Prelude.{◌≡◌, ℕ, ◌<◌, ◌≤◌, max, Bool, ◌⊎◌, List, [], map, length, drop, Ok, Err, Result, slice_index, slice_index_or}
use Rattle.block.specs.Rows.{bit, tab, value, bit_of}
use Rattle.block.specs.Calls.{answered}
use Rattle.refusal.specs.declared.Refusal.{Refusal}
use Rattle.refusal.specs.declared.Refusal.TheVariants.{TooFewBlocks, TooManyBytes}

-- the rows of a table of blocks, by number
abbrev pub rows : {B : Type 0} → (B → List Bool) → List B → ℕ → List Bool
rows row table j = slice_index_or (map row table) j []

-- the number that the first n rows hold at place i: row j has its bit worth 2 ^ j
abbrev pub held_by : ℕ → (ℕ → List Bool) → ℕ → ℕ
held_by n rows i = value n (λ j. bit (rows j) i)

-- the byte that the first eight rows hold at place i
abbrev pub held : (ℕ → List Bool) → ℕ → ℕ
held = held_by 8

-- the bit worth 2 ^ j of each byte, in a row of w places; places without a byte are zero
abbrev pub basis : ℕ → List ℕ → ℕ → List Bool
basis w bytes j = tab w (λ i. bit_of (slice_index bytes i) j)

-- blocks 0 to 7 of the table hold the bytes, and the later ones are unchanged
pub record Transposed {B : Type 0} (row : B → List Bool) (w : ℕ) (bytes : List ℕ) (old new : List B) : Type 0 where
  pub first : (j : ℕ) → j < 8 → rows row new j ≡ basis w bytes j
  pub later : drop 8 new ≡ drop 8 old

-- why a table and a count of bytes do not go together: fewer than eight blocks, then more bytes than the answered width
abbrev pub Declines : ℕ → ℕ → ℕ → Refusal → Type 0
Declines blocks bytes width e =
    ((blocks < 8) × (e ≡ TooFewBlocks)) ⊎ ((8 ≤ blocks) × (width < bytes) × (e ≡ TooManyBytes))

abbrev pub Agrees : ℕ → ℕ → ℕ → Result (Unit {0}) Refusal → Type 0
Agrees blocks bytes width (Ok _) = (8 ≤ blocks) × (bytes ≤ width)
Agrees blocks bytes width (Err e) = Declines blocks bytes width e

-- what `transpose` answers and leaves: the bytes in the table, or a refusal and the table as it was
abbrev pub Transposes : {B : Type 0} → (B → List Bool) → ℕ → List ℕ → List B → List B → Result (Unit {0}) Refusal → Type 0
Transposes row w bytes old new (Ok _) = (8 ≤ length old) × (length bytes ≤ answered w) × Transposed row w bytes old new
Transposes row w bytes old new (Err e) = Declines (length old) (length bytes) (answered w) e × (new ≡ old)

-- what `back` answers and leaves: the bytes that the table holds in the whole buffer, or a refusal and the buffer as it was
abbrev pub Returns : {B : Type 0} → (B → List Bool) → ℕ → List B → List ℕ → List ℕ → Result (Unit {0}) Refusal → Type 0
Returns row w table old new (Ok _) =
    (8 ≤ length table) × (length old ≤ answered w) × ((i : ℕ) → i < length old → slice_index new i ≡ held (rows row table) i)
Returns row w table old new (Err e) = Declines (length table) (length old) (answered w) e × (new ≡ old)

-- There and back: where both take their bytes, the buffer gets the bytes themselves, with zeros behind the last.
abbrev pub RoundTrip : ℕ → ℕ → List ℕ → List ℕ → List ℕ → Result (Unit {0}) Refusal → Type 0
RoundTrip blocks width bytes old new (Ok _) =
    (8 ≤ blocks) × (length bytes ≤ width) × (length old ≤ width) × ((i : ℕ) → i < length old → slice_index new i ≡ slice_index bytes i)
RoundTrip blocks width bytes old new (Err e) = (Declines blocks (max (length bytes) (length old)) width e) × (new ≡ old)

-- the table of an accepted call holds the bytes, and that of a refused one what it held
abbrev pub Keeps : {B : Type 0} → (B → List Bool) → ℕ → List ℕ → List B → List B → Result (Unit {0}) Refusal → Type 0
Keeps row w bytes old new (Ok _) = Transposed row w bytes old new
Keeps row w bytes old new (Err e) = new ≡ old
