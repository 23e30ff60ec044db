-- The flashes of a recording: where each run of lit samples is complete. Assumes nothing.
use Rattle.std.specs.Prelude.{ℕ, zero, suc, ◌+◌, Bool, false, cond, not, ◌&&◌, List, [], ◌∷◌, length, ◌==◌, slice_index}
use Rattle.limits.specs.Limits.{longest_recording}
use Rattle.refusal.specs.declared.ends.End.{End}

-- the byte of a lit sample, and the one that closes a turn
abbrev pub lit_byte : ℕ
lit_byte = 35

abbrev pub line_feed : ℕ
line_feed = 10

-- the most bytes that a recording has
abbrev pub longest : ℕ
longest = longest_recording

-- whether the sample at position p is lit; behind the recording none is
abbrev pub lit : List ℕ → ℕ → Bool
lit b p = slice_index b p == lit_byte

abbrev pub lit_before : List ℕ → ℕ → Bool
lit_before b zero = false
lit_before b (suc p) = lit b p

-- a run is complete behind its last lit sample
abbrev pub complete : List ℕ → ℕ → Bool
complete b p = lit_before b p && not (lit b p)

-- the line of position p, counted from 1, and how many bytes of that line stand before p
abbrev pub line_at : List ℕ → ℕ → ℕ
line_at b zero = 1
line_at b (suc p) = cond (slice_index b p == line_feed) (suc (line_at b p)) (line_at b p)

abbrev pub column_at : List ℕ → ℕ → ℕ
column_at b zero = 0
column_at b (suc p) = cond (slice_index b p == line_feed) 0 (suc (column_at b p))

abbrev pub end_at : List ℕ → ℕ → End
end_at b p = record { line = line_at b p; column = column_at b p; position = p }

-- the ends at `count` positions from p on, in order
unfoldable pub between : List ℕ → ℕ → ℕ → List End
between b p zero = []
between b p (suc count) = cond (complete b p) (end_at b p ∷ between b (suc p) count) (between b (suc p) count)

-- all ends of a recording: a run that is still lit at its end is complete there
abbrev pub flashes : List ℕ → List End
flashes b = between b 0 (length b + 1)
