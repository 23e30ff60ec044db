-- Passes end: a pass that notes a change has fewer zeros left in the stars' rows. Assumes nothing.
use Rattle.std.specs.Prelude.{◌≡◌, ℕ, zero, suc, ◌+◌, ◌*◌, ◌<◌, ◌≤◌, Bool, true, false, ◌⊎◌, List, length}
use Rattle.block.specs.Calls.{none_row}
use Rattle.theory.specs.Pattern.{Pattern}
use Rattle.theory.specs.Passes.{zeros, stars}
use Rattle.program.specs.declared.Step.{Step}
use Rattle.program.specs.Machine.{Machine, runs, repeated}
use Rattle.program.specs.Numbered.{Classed}
use Rattle.program.specs.Compile.{feeds_at, depth, program, stars_at, Within, Each}

-- the zeros in `count` rows from s on
abbrev pub vacant : (ℕ → List Bool) → (s count : ℕ) → ℕ
vacant rows s zero = 0
vacant rows s (suc count) = zeros (rows s) + vacant rows (suc s) count

-- these rows have w places
abbrev pub Wide : ℕ → (ℕ → List Bool) → (s count : ℕ) → Type 0
Wide w rows s count = (i : ℕ) → s ≤ i → i < s + count → length (rows i) ≡ w

-- from x to y these rows have kept their places and have no more zeros, and fewer where a change was noted
pub record Fallen (w s count : ℕ) (x y : Machine) : Type 0 where
  pub wide : Wide w y.rows s count
  pub room : vacant y.rows s count ≤ vacant x.rows s count
  pub noted : y.changed ≡ true → (x.changed ≡ true) ⊎ (vacant y.rows s count < vacant x.rows s count)

abbrev pub StepsFall : Type 0
StepsFall =
    (w : ℕ) (ins : ℕ → Bool) (n k s count : ℕ) (steps : List Step) →
    Each (Within n k s (s + count)) steps →
    (x : Machine) →
    Wide w x.rows s count →
    Fallen w s count x (runs w ins steps x)

-- so the passes of a program end, after at most as many as the stars' rows have places
abbrev pub ProgramEnds : Type 0
ProgramEnds =
    (w n : ℕ) (F : Pattern) →
    Classed n F →
    depth F ≤ feeds_at →
    (ins : ℕ → Bool) (m : List Bool) (x : Machine) →
    ((i : ℕ) → stars_at n ≤ i → i < stars_at n + stars F → x.rows i ≡ none_row w) →
    (j : ℕ) × (j ≤ stars F * w) × ((repeated w ins (program n F) m x j).changed ≡ false)
