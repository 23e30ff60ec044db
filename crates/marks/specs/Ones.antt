-- The ones of a block, one after the other. Assumes nothing.
use Rattle.std.specs.Prelude.{◌≡◌, ℕ, ◌+◌, min, Bool, List, Some, None, Option}
use Rattle.block.specs.Rows.{bit}
use Rattle.block.specs.Calls.{Least}
use Rattle.marks.specs.declared.ones.Ones.{Ones}

-- where the next one is looked for, once this was answered
abbrev pub behind : ℕ → Option ℕ → ℕ
behind at (Some p) = p + 1
behind at None = at

-- the next one of a row, of which w places are asked about, and what is left then
pub record StepsOn {B : Type 0} (row : B → List Bool) (w : ℕ) (old : Ones B) (r : Option ℕ) (new : Ones B) : Type 0 where
  pub block : new.block ≡ old.block
  pub to : new.to ≡ old.to
  pub from : new.from ≡ behind old.from r
  pub least : Least (bit (row old.block)) old.from (min old.to w) r
