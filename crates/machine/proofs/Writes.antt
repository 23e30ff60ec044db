-- A write to a table changes its view at one number. Assumes nothing.
use Rattle.std.proofs.Common.{◌≡◌, ℕ, ◌<◌, Bool, true, false, cond, eqb, ◌≢◌, List, length, set, refl, ap, ◌∙◌}
use Rattle.std.proofs.lemmas.Bool.{eqb-true, eqb-false}
use Rattle.stream.specs.Tables.{rows}
use Rattle.stream.proofs.Tables.{rows_here, rows_other}
use Rattle.program.specs.Machine.{put}

-- a function that differs from f at r alone
pub put_is : {X : Type 0} (f : ℕ → X) (r : ℕ) (v : X) (g : ℕ → X) → g r ≡ v → ((i : ℕ) → i ≢ r → g i ≡ f i) → g ≡ put f r v
unfolding put
put_is f r v g here there = λ j i. go i (eqb i r) refl j
  where
    go : (i : ℕ) (b : Bool) → eqb i r ≡ b → g i ≡ cond b v (f i)
    go i true e = ap g (eqb-true i r e) ∙ here
    go i false e = there i (eqb-false i r e)

pub rows_set : {B : Type 0} (row : B → List Bool) (table : List B) (i : ℕ) (b : B) → i < length table
    → rows row (set table i b) ≡ put (rows row table) i (row b)
rows_set row table i b h =
    put_is (rows row table) i (row b) (rows row (set table i b)) (rows_here row table i b h) (rows_other row table i b)

pub rows_written : {B : Type 0} (row : B → List Bool) (table new : List B) (i : ℕ) (b : B) → new ≡ set table i b → (j : ℕ)
    → rows row new j ≡ rows row (set table i b) j
rows_written row table new i b e j = ap (λ t. rows row t j) e
