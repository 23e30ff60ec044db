-- How far the reading of lines goes. Assumes nothing.
use Rattle.std.specs.Prelude.{ℕ, ◌+◌}
use Rattle.block.specs.Calls.{widest}
use Rattle.limits.specs.Limits.{longest_recording}

-- where the last block may begin: behind the longest recording and one widest block
abbrev pub farthest : ℕ
farthest = longest_recording + widest
