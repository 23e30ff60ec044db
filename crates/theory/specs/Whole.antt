-- Block after block: the marks of all the blocks together. Assumes nothing.
use Rattle.std.specs.Prelude.{Bool, List, ◌↔◌, ℕ, zero, suc, ◌+◌, ◌<◌, ◌≤◌}
use Rattle.block.specs.Calls.{all_row}
use Rattle.theory.specs.Pattern.{Pattern, Streams, Matches}
use Rattle.theory.specs.Block.{Carry, none, Cont, bits, out, carry, passes, Settled, Has}

-- some match ends at p
abbrev pub Ending : Streams → Pattern → ℕ → Type 0
Ending t F p = (s : ℕ) × Matches t F s p

-- At the border a the carries k stand for the matches from before it: they complete just where those do.
abbrev pub Carried : Streams → (a : ℕ) (F : Pattern) → Carry F → Type 0
Carried t a F k = (p : ℕ) → a ≤ p → Cont t a F k p ↔ ((s : ℕ) × (s < a) × Matches t F s p)

-- before the first block there are none
abbrev pub FirstBorder : Type 0
FirstBorder = (t : Streams) (F : Pattern) → Carried t 0 F (none F)

-- A block of W places from a with all of them marked, after n passes from empty registers, where the next changes none: its marks
-- are just the places at which a match ends, and its carries stand for the matches from before its end.
abbrev pub NextBlock : Type 0
NextBlock =
    (t : Streams) (a W : ℕ) →
    0 < W →
    (F : Pattern) (k : Carry F) (n : ℕ) →
    Carried t a F k →
    Settled t a W F k (all_row W) (passes t a W F k (all_row W) n) →
    ((p : ℕ) →
    a ≤ p →
    p < a + W →
    Has a W (out (bits t a W) F k (passes t a W F k (all_row W) n) (all_row W)) p ↔ Ending t F p)
    × Carried t (a + W) F (carry (bits t a W) F k (passes t a W F k (all_row W) n) (all_row W))

-- where the block j begins
abbrev pub border : ℕ → ℕ → ℕ
border W zero = 0
border W (suc j) = border W j + W

-- the carries at the border j, where each block i has had n i passes before its last
abbrev pub carried : Streams → ℕ → (F : Pattern) → (ℕ → ℕ) → ℕ → Carry F
carried t W F n zero = none F
carried t W F n (suc j) =
    carry (bits t (border W j) W) F (carried t W F n j) (passes t (border W j) W F (carried t W F n j) (all_row W) (n j)) (all_row W)

-- the marks of the block j
abbrev pub marked : Streams → ℕ → (F : Pattern) → (ℕ → ℕ) → ℕ → List Bool
marked t W F n j =
    out (bits t (border W j) W) F (carried t W F n j) (passes t (border W j) W F (carried t W F n j) (all_row W) (n j)) (all_row W)

-- the last pass of each of the blocks before changes no register
abbrev pub AllSettled : Streams → ℕ → (F : Pattern) → (ℕ → ℕ) → ℕ → Type 0
AllSettled t W F n blocks =
    (j : ℕ) →
    j < blocks →
    Settled t (border W j) W F (carried t W F n j) (all_row W) (passes t (border W j) W F (carried t W F n j) (all_row W) (n j))

-- the position p is marked in one of the blocks
abbrev pub Marked : Streams → ℕ → (F : Pattern) → (ℕ → ℕ) → ℕ → ℕ → Type 0
Marked t W F n blocks p = (j : ℕ) × (j < blocks) × Has (border W j) W (marked t W F n j) p

-- of settled blocks the marks are just the places at which a match ends
abbrev pub ManyBlocks : Type 0
ManyBlocks =
    (t : Streams) (W : ℕ) →
    0 < W →
    (F : Pattern) (n : ℕ → ℕ) (blocks : ℕ) →
    AllSettled t W F n blocks →
    (p : ℕ) →
    p < border W blocks →
    Marked t W F n blocks p ↔ Ending t F p
