-- Places of a number that change places. Assumes nothing.
use Rattle.std.specs.Prelude.{ℕ, ◌+◌, ◌-◌, Bool, ◌&&◌, nat_le}
use Rattle.block.specs.Rows.{bit_of}
use Rattle.block.specs.Calls.{differ}

-- whether place p of f differs from the one `step` places on, where the mask has a one
abbrev pub apart : ℕ → ℕ → (ℕ → Bool) → ℕ → Bool
apart mask step f p = differ (f p) (f (step + p)) && bit_of mask p

-- f, with each place of the mask and the one `step` places on flipped where they differ
abbrev pub swapped : ℕ → ℕ → (ℕ → Bool) → ℕ → Bool
swapped mask step f p = differ (differ (f p) (apart mask step f p)) (nat_le step p && apart mask step f (p - step))
