use Rattle.std.proofs.Common.{◌≡◌, ℕ, ◌<◌, ◌||◌, map, drop}
use Rattle.form.specs.Meaning.{listed}
use Rattle.stream.specs.Sets.{has}
use Rattle.tree.specs.Stands.{item}
use Rattle.classes.proofs.listed.listed.Given as goal

-- what was gathered and what is left are all
abbrev pub invariant-loop-r : goal.invariant-loop-r
invariant-loop-r l = (v : ℕ) → v < 256 → (has l.all v || listed (map item (drop l.r-index l.ranges)) v) ≡ listed (map item l.ranges) v
