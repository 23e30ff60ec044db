-- A row of bits by its changes: the places where a bit differs from the one before, a zero standing before place 0.
-- Assumes nothing.
use Rattle.std.specs.Prelude.{◌≡◌, ℕ, zero, suc, ◌<◌, Bool, true, false, not, ◌&&◌, ◌||◌, List, [], ◌∷◌, ◌==◌, nat_le}
use Rattle.block.specs.Calls.{differ, enters}

abbrev pub odd : ℕ → Bool
odd zero = false
odd (suc n) = not (odd n)

-- the bit at place i: whether oddly many of the changes are up to i
abbrev pub shown : List ℕ → ℕ → Bool
shown [] i = false
shown (x ∷ l) i = differ (nat_le x i) (shown l i)

-- whether the places rise, from k on and below e
abbrev pub rises : ℕ → ℕ → List ℕ → Bool
rises k e [] = nat_le k e
rises k e (x ∷ l) = nat_le k x && rises (suc x) e l

-- whether a place is among the changes
abbrev pub among : List ℕ → ℕ → Bool
among [] i = false
among (x ∷ l) i = x == i || among l i

-- A place is among rising changes exactly when its bit differs from the one before, a zero before place 0: this is all
-- that is kept of the bits.
abbrev pub KeepsChanges : Type 0
KeepsChanges =
    (e : ℕ) (l : List ℕ) → rises 0 e l ≡ true → (i : ℕ) → among l i ≡ differ (shown l i) (enters false (shown l) i)

-- two rows agree before place p
abbrev pub Agree : ℕ → (ℕ → Bool) → (ℕ → Bool) → Type 0
Agree p f g = (j : ℕ) → j < p → f j ≡ g j
