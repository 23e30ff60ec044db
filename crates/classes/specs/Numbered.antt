-- Sets of byte values for classes, by number. Assumes nothing.
use Rattle.std.specs.Prelude.{◌≡◌, ℕ, ◌+◌, ◌<◌, ◌≤◌, Bool, List, [], ◌∷◌, ◌++◌, length, vec_items}
use Rattle.stream.specs.Sets.{has}
use Rattle.stream.specs.declared.set.ByteSet.{ByteSet}
use Rattle.limits.specs.Limits.{heaviest}
use Rattle.classes.specs.declared.table.ClassTable.{ClassTable}

abbrev pub sets_of : ClassTable → List ByteSet
sets_of t = vec_items t.sets

-- the set has just the byte values of the class
abbrev pub Is : ByteSet → (ℕ → Bool) → Type 0
Is s class = (v : ℕ) → v < 256 → has s v ≡ class v

-- the sets are those of the classes, one for one
abbrev pub Are : List ByteSet → List (ℕ → Bool) → Type 0
Are [] [] = Unit {0}
Are [] (class ∷ classes) = ⊥
Are (s ∷ sets) [] = ⊥
Are (s ∷ sets) (class ∷ classes) = Is s class × Are sets classes

-- u holds what t holds, and the sets of the classes behind it
pub record Added (t u : ClassTable) (classes : List (ℕ → Bool)) : Type 0 where
  pub more : List ByteSet
  pub holds : sets_of u ≡ sets_of t ++ more
  pub sets : Are more classes

-- the same, where there is room
abbrev pub Adds : ClassTable → ClassTable → List (ℕ → Bool) → Type 0
Adds t u classes = length (sets_of t) + length classes ≤ heaviest → Added t u classes

-- the table holds the sets of the classes, and no more
abbrev pub Filled : ClassTable → List (ℕ → Bool) → Type 0
Filled t classes = Are (sets_of t) classes
