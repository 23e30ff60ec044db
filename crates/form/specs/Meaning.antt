-- What a form means in one line: a set of pairs (s, p) of columns, s and p counting the line's bytes before them.
-- Assumes nothing.
use Rattle.std.specs.Prelude.{◌≡◌, ℕ, zero, suc, ◌-◌, ◌<◌, ◌≤◌, Bool, false, not, ◌&&◌, ◌||◌, T, ◌⊎◌, List, [], ◌∷◌, length, ◌==◌, nat_le, slice_index, slice_range}
use Rattle.form.specs.Form.{Item, Form, Forms, quote, set, out, seq, or, star, rep, start, end, nil, cons}

-- the line feed, which closes a line and is part of none
abbrev pub feed : ℕ
feed = 10

-- the byte is in an item
abbrev pub listed : List Item → ℕ → Bool
listed [] byte = false
listed (item ∷ items) byte = (nat_le item.low byte && nat_le byte item.high) || listed items byte

-- the bytes that `set` takes, and those that `out` takes: a line feed is in neither, even when listed
abbrev pub inside : List Item → ℕ → Bool
inside items byte = listed items byte && not (byte == feed)

abbrev pub outside : List Item → ℕ → Bool
outside items byte = not (listed items byte) && not (byte == feed)

-- one byte of the class: (s, s + 1) where byte s is of it
abbrev pub One : List ℕ → (ℕ → Bool) → ℕ → ℕ → Type 0
One line class s p = (s < length line) × (p ≡ suc s) × T (class (slice_index line s))

-- the bytes from s up to p are these
abbrev pub Spelled : List ℕ → List ℕ → ℕ → ℕ → Type 0
Spelled line bytes s p = (s ≤ p) × (p ≤ length line) × (slice_range line s p ≡ bytes)

-- k pairs of R, joined end to start
abbrev pub Joins : (ℕ → ℕ → Type 0) → ℕ → ℕ → ℕ → Type 0
Joins R zero s p = s ≡ p
Joins R (suc k) s p = (q : ℕ) × R s q × Joins R k q p

abbrev mutual
  -- the pair (s, p) is in the set of the form
  pub Pairs : List ℕ → Form → ℕ → ℕ → Type 0
  Pairs line (quote bytes) s p = Spelled line bytes s p
  Pairs line (set items) s p = One line (inside items) s p
  Pairs line (out items) s p = One line (outside items) s p
  Pairs line (seq parts) s p = Joined line parts s p
  Pairs line (or parts) s p = Either line parts s p
  Pairs line (star part) s p = (s ≤ length line) × ((k : ℕ) × Joins (Pairs line part) k s p)
  Pairs line (rep least most part) s p =
      (s ≤ length line) × ((k : ℕ) × (least ≤ k) × (k ≤ most) × Joins (Pairs line part) k s p)
  Pairs line start s p = (s ≡ 0) × (p ≡ 0)
  Pairs line end s p = (s ≡ length line) × (p ≡ length line)

  -- a pair of each part, in order, joined end to start
  pub Joined : List ℕ → Forms → ℕ → ℕ → Type 0
  Joined line nil s p = (s ≤ length line) × (s ≡ p)
  Joined line (cons part parts) s p = (q : ℕ) × Pairs line part s q × Joined line parts q p

  -- a pair of some part
  pub Either : List ℕ → Forms → ℕ → ℕ → Type 0
  Either line nil s p = ⊥
  Either line (cons part parts) s p = Pairs line part s p ⊎ Either line parts s p

-- a pair of a form stands in the line, and goes forwards
abbrev pub PairsInside : Type 0
PairsInside = (line : List ℕ) (F : Form) (s p : ℕ) → Pairs line F s p → (s ≤ p) × (p ≤ length line)
