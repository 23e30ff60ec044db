-- Weights that are cut off. Assumes nothing.
use Rattle.std.specs.Prelude.{ℕ, ◌+◌, min}
use Rattle.limits.specs.Limits.{heaviest}

-- a weight, cut off one past the limit
abbrev pub capped : ℕ → ℕ
capped w = min w (heaviest + 1)
