-- The marks of one block of bytes. Assumes nothing.
use Rattle.std.specs.Prelude.{◌≡◌, ℕ, ◌<◌, ◌≤◌, Bool, not, ◌&&◌, ◌⊎◌, List, length, Ok, Err, Result, ◌==◌, slice_index}
use Rattle.block.specs.Rows.{bit}
use Rattle.block.specs.Calls.{answered, enters}
use Rattle.refusal.specs.declared.Refusal.{Refusal}
use Rattle.flash.specs.declared.runs.Marks.{Marks}
use Rattle.flash.specs.Flashes.{lit, line_feed}

-- n bytes go into a block of w places so that the place behind them can be asked about, or is behind the whole block
abbrev pub Fills : (w n : ℕ) → Type 0
Fills w n = (n ≤ answered w) × ((n < answered w) ⊎ (n ≡ w))

-- whether the sample before place p is lit; before place 0 the carry says so
abbrev pub before : Bool → List ℕ → ℕ → Bool
before carry bytes = enters carry (lit bytes)

-- the marks that the bytes have, with the carry from the block before; there always are some
abbrev pub Marked : {B : Type 0} → (B → List Bool) → Bool → List ℕ → Result (Marks B) Refusal → Type 0
Marked row carry bytes (Ok m) =
    ((p : ℕ) → p < length bytes → bit (row m.complete) p ≡ (before carry bytes p && not (lit bytes p)))
    × ((p : ℕ) → p < length bytes → bit (row m.feeds) p ≡ (slice_index bytes p == line_feed))
    × (m.lit ≡ before carry bytes (length bytes))
Marked row carry bytes (Err e) = ⊥
