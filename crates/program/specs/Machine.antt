-- Steps on a machine of marks, numbered rows and numbered carries. Assumes nothing.
use Rattle.std.specs.Prelude.{ℕ, zero, suc, Bool, true, false, cond, not, ◌&&◌, ◌||◌, List, [], ◌∷◌, ◌==◌}
use Rattle.block.specs.Calls.{and_row, or_row}
use Rattle.stream.specs.MatchStar.{star_row, star_out}
use Rattle.theory.specs.Block.{step_row, step_out}
use Rattle.program.specs.declared.Step.{Step}
use Rattle.program.specs.declared.Step.TheVariants.{Take, Run, More, Keep, Save, Load, Or, Grow}

pub record Machine : Type 0 where
  pub marks : List Bool
  pub rows : ℕ → List Bool
  pub carries : ℕ → Bool
  pub changed : Bool

-- f with v at r
unfoldable pub put : {X : Type 0} → (ℕ → X) → ℕ → X → ℕ → X
put f r v i = cond (i == r) v (f i)

abbrev pub equal : Bool → Bool → Bool
equal true true = true
equal true false = false
equal false true = false
equal false false = true

-- whether two rows are one
unfoldable pub same : List Bool → List Bool → Bool
same [] [] = true
same [] (y ∷ ys) = false
same (x ∷ xs) [] = false
same (x ∷ xs) (y ∷ ys) = equal x y && same xs ys

-- one step on rows of w places, with the carries `ins` from the block before
abbrev pub does : ℕ → (ℕ → Bool) → Step → Machine → Machine
does w ins (Take c k) x =
    record {
      marks = step_row w (x.rows c) (ins k) x.marks;
      rows = x.rows;
      carries = put x.carries k (step_out w (x.rows c) x.marks);
      changed = x.changed;
    }
does w ins (Run c k) x =
    record {
      marks = star_row w x.marks (x.rows c) (ins k);
      rows = x.rows;
      carries = put x.carries k (star_out w x.marks (x.rows c) (ins k));
      changed = x.changed;
    }
does w ins (More c k) x =
    record {
      marks = star_row w (step_row w (x.rows c) (ins k) x.marks) (x.rows c) false;
      rows = x.rows;
      carries = put x.carries k (step_out w (x.rows c) x.marks || star_out w (step_row w (x.rows c) (ins k) x.marks) (x.rows c) false);
      changed = x.changed;
    }
does w ins (Keep r) x =
    record { marks = and_row w x.marks (x.rows r); rows = x.rows; carries = x.carries; changed = x.changed }
does w ins (Save r) x =
    record { marks = x.marks; rows = put x.rows r x.marks; carries = x.carries; changed = x.changed }
does w ins (Load r) x = record { marks = x.rows r; rows = x.rows; carries = x.carries; changed = x.changed }
does w ins (Or r) x =
    record {
      marks = x.marks;
      rows = put x.rows r (or_row w (x.rows r) x.marks);
      carries = x.carries;
      changed = x.changed;
    }
does w ins (Grow r) x =
    record {
      marks = x.marks;
      rows = put x.rows r (or_row w (x.rows r) x.marks);
      carries = x.carries;
      changed = x.changed || not (same (or_row w (x.rows r) x.marks) (x.rows r));
    }

abbrev pub runs : ℕ → (ℕ → Bool) → List Step → Machine → Machine
runs w ins [] x = x
runs w ins (s ∷ p) x = runs w ins p (does w ins s x)

-- Passes with the marks m and the carries `ins`, each with the rows that the one before it left: the machine after j of them and one more.
abbrev pub begun : List Bool → Machine → Machine
begun m x = record { marks = m; rows = x.rows; carries = x.carries; changed = false }

abbrev pub repeated : ℕ → (ℕ → Bool) → List Step → List Bool → Machine → ℕ → Machine
repeated w ins p m x zero = runs w ins p (begun m x)
repeated w ins p m x (suc j) = runs w ins p (begun m (repeated w ins p m x j))
