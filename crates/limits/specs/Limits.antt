-- The limits of the reader. Assumes nothing.
use Rattle.std.specs.Prelude.{ℕ, ◌+◌, ◌*◌}

-- the heaviest form that is taken
abbrev pub heaviest : ℕ
heaviest = 1000

-- the widest kind of block that is matched
abbrev pub widest_kind : ℕ
widest_kind = 256

-- the most bytes that a feed or a list takes at once
abbrev pub longest_piece : ℕ
longest_piece = 65536

-- the most bytes that a recording has
abbrev pub longest_recording : ℕ
longest_recording = 1000000000

-- how many working blocks a form of this weight asks for
abbrev pub need : ℕ → ℕ
need weight = 2 * weight + 32
