-- Two rows of v bits behind one another, as a row of v + v. Assumes nothing.
use Rattle.std.specs.Prelude.{◌≡◌, ℕ, ◌+◌, ◌*◌, ◌<◌, ◌≤◌, Bool, List, ◌++◌, length, Some, None, Option}
use Rattle.block.specs.Calls.{answered, none_row, all_row, and_row, or_row, xor_row, not_row, Served, Past}
use Rattle.doubled.specs.declared.Half.{Half}
use Rattle.doubled.specs.declared.Half.TheVariants.{Early, Late}

-- the whole is x and y behind one another: what was done place by place to each half was done to the whole
pub record Joined (v : ℕ) (x y whole : List Bool) : Type 0 where
  pub none : x ≡ none_row v → y ≡ none_row v → whole ≡ none_row (v + v)
  pub all : x ≡ all_row v → y ≡ all_row v → whole ≡ all_row (v + v)
  pub and : (a b c d : List Bool) → length a ≡ v → length b ≡ v → x ≡ and_row v a b → y ≡ and_row v c d → whole ≡ and_row (v + v) (a ++ c) (b ++ d)
  pub or : (a b c d : List Bool) → length a ≡ v → length b ≡ v → x ≡ or_row v a b → y ≡ or_row v c d → whole ≡ or_row (v + v) (a ++ c) (b ++ d)
  pub xor : (a b c d : List Bool) → length a ≡ v → length b ≡ v → x ≡ xor_row v a b → y ≡ xor_row v c d → whole ≡ xor_row (v + v) (a ++ c) (b ++ d)
  pub not : (a c : List Bool) → length a ≡ v → x ≡ not_row v a → y ≡ not_row v c → whole ≡ not_row (v + v) (a ++ c)

-- the group k of the whole is the group n of the later half, and both serve it
pub record InLate (v k n : ℕ) : Type 0 where
  pub at : 8 * k ≡ v + 8 * n
  pub half : Served v n
  pub whole : Served (v + v) k

-- where the group k of the whole lies
abbrev pub Lies : ℕ → ℕ → Option Half → Type 0
Lies v k (Some (Early n)) = (n ≡ k) × Served v k
Lies v k (Some (Late n)) = InLate v k n
Lies v k None = Past (v + v) k

-- the place p of the later half, as a place of the whole, below the answered width
abbrev pub Place : ℕ → ℕ → Option ℕ → Type 0
Place v p (Some q) = (q ≡ answered v + p) × (q < answered (v + v))
Place v p None = answered (v + v) ≤ answered v + p
