-- What the parts of the writer of programs do, each in its place: a part writes the steps of a pattern behind those that were written,
-- and takes the next numbers. Assumes nothing.
use Rattle.std.specs.Prelude.{◌≡◌, ℕ, ◌+◌, ◌≤◌, List, ◌++◌, length, Some, None, vec_items, Option}
use Rattle.theory.specs.Pattern.{Pattern}
use Rattle.theory.specs.Passes.{stars}
use Rattle.program.specs.declared.Step.{Step}
use Rattle.program.specs.Numbered.{leaves}
use Rattle.program.specs.Compile.{unions, unions_into, steps, into}
use Rattle.emit.specs.Limit.{longest}
use Rattle.emit.specs.declared.code.Code.{Code}

abbrev pub steps_of : Code → List Step
steps_of x = vec_items x.steps

-- numbers up to this one are counted exactly
abbrev pub top : ℕ
top = 1000000

-- from x to y these steps were written, and so many carries, stars' rows and gathering rows numbered
pub record Went (x y : Code) (code : List Step) (k s a : ℕ) : Type 0 where
  pub written : steps_of y ≡ steps_of x ++ code
  pub carries : y.carry ≡ x.carry + k
  pub rows : y.star ≡ x.star + s
  pub gathering : y.gather ≡ x.gather + a

-- the same, where there is room
abbrev pub Does : Code → Code → List Step → (k s a : ℕ) → Type 0
Does x y code k s a =
    length (steps_of x) + length code ≤ longest → x.carry + k ≤ top → x.star + s ≤ top → x.gather + a ≤ top → Went x y code k s a

-- the steps of a pattern, whose marks go into a row that gathers, or on
abbrev pub code_of : Option ℕ → Pattern → (k s a d : ℕ) → List Step
code_of None P k s a d = steps P k s a d
code_of (Some r) P k s a d = into P k s a d r

-- how many gathering rows of its own it then has
abbrev pub own : Option ℕ → Pattern → ℕ
own None P = unions P
own (Some r) P = unions_into P

-- the pattern's steps were written, with marks kept from the row d on
abbrev pub Writes : Option ℕ → ℕ → Pattern → Code → Code → Type 0
Writes m d P x y =
    d + length (code_of m P x.carry x.star x.gather d) ≤ top →
    Does x y (code_of m P x.carry x.star x.gather d) (leaves P) (stars P) (own m P)
