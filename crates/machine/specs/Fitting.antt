-- A program is in range in at most one way, so that a struct may keep the fact. Assumes nothing.
use Rattle.std.specs.Prelude.{ℕ, List, [], ◌∷◌}
use Rattle.std.specs.Coded.{×_prop, →_prop, Unit-prop, le_prop}
use mathlib.Core.HLevel.{×₃_prop, ⊥_prop}
use Rattle.program.specs.declared.Step.{Step}
use Rattle.program.specs.declared.Step.TheVariants.{Take, Run, More, Keep, Save, Load, Or, Grow}
use Rattle.program.specs.Compile.{Within, Each}

module _ (n k s e : ℕ) where
  pub Within-prop : (p : Step) → IsProp (Within n k s e p)
  Within-prop (Take c j) = ×_prop le_prop le_prop
  Within-prop (Run c j) = ×_prop le_prop le_prop
  Within-prop (More c j) = ×_prop le_prop le_prop
  Within-prop (Keep r) = le_prop
  Within-prop (Save r) = ×_prop le_prop (→_prop (→_prop ⊥_prop))
  Within-prop (Load r) = le_prop
  Within-prop (Or r) = le_prop
  Within-prop (Grow r) = ×₃_prop le_prop le_prop le_prop

  pub Each-prop : (ps : List Step) → IsProp (Each (Within n k s e) ps)
  Each-prop [] = Unit-prop
  Each-prop (p ∷ ps) = ×_prop (Within-prop p) (Each-prop ps)
