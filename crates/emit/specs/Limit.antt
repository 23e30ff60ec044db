-- How long the program of the heaviest form is, at most. Assumes nothing.
use Rattle.std.specs.Prelude.{ℕ, ◌*◌}
use Rattle.limits.specs.Limits.{heaviest}

abbrev pub longest : ℕ
longest = 4 * heaviest
