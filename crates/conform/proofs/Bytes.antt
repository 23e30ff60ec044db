-- Bits by bytes. Assumes nothing.
use Rattle.std.proofs.Common.{◌≡◌, ℕ, ◌+◌, ◌-◌, ◌*◌, ◌/◌, ◌%◌, ◌^◌, ◌<◌, Bool, true, false, not, List, length, get_or, sym, ap, ◌∙◌, subst, ap₂, arith, eqb, eqb-true, eq-eqb}
use native.Mathlib.Decide.{dec_lt}
use Rattle.block.specs.Rows.{bit, bit_of, is_one, row_of}
use Rattle.block.specs.Calls.{answered, Served, Read}
use Rattle.block.proofs.Rows.{bit_at, wrong}
use Rattle.block.proofs.Places.{place_ones}
use Rattle.block.proofs.Numbers.{bit_row, row_not, same_number}
use Rattle.conform.specs.Judged.{Agree, Differ, HasByte, repeated}

pub bit_ones : (j : ℕ) → j < 8 → bit_of 255 j ≡ true
bit_ones j h = ap is_one (place_ones 8 j h)

pub bit_not : (x j : ℕ) → x < 2 ^ 8 → j < 8 → bit_of (255 - x) j ≡ not (bit_of x j)
bit_not x j l h =
    sym (bit_row 8 (255 - x) j h) ∙ bit_at 8 (row_of 8 (255 - x)) (λ i. not (bit (row_of 8 x) i)) (row_not 8 x l) j h ∙ ap not (bit_row 8 x j h)

-- one group more
pub agree_more : (k : ℕ) (f g : ℕ → Bool) → Agree (8 * k) f g → ((j : ℕ) → j < 8 → f (8 * k + j) ≡ g (8 * k + j)) → Agree (8 * (k + 1)) f g
agree_more k f g before here i h =
    elim (dec_lt i (8 * k)) [
      | yes l ↦ before i l
      | no l ↦ let back : 8 * k + (i - 8 * k) ≡ i = omega arith in subst (λ n. f n ≡ g n) back (here (i - 8 * k) (omega arith))
    ]

-- the group k of a row x is compared with the byte b, whose bits are those of g
module _ (w : ℕ) (x : List Bool) (k b r : ℕ) (g : ℕ → Bool) (served : Served w k) (reads : Read w x k r) (bits : HasByte g k b) where
  pub group_same : true ≡ eqb r b → (j : ℕ) → j < 8 → bit x (8 * k + j) ≡ g (8 * k + j)
  group_same e j h = sym (reads.inside served j h) ∙ ap (λ n. bit_of n j) (eqb-true r b (sym e)) ∙ bits j h

  pub group_differs : false ≡ eqb r b → r < 2 ^ 8 → b < 2 ^ 8 → Agree (8 * k) (bit x) g → Differ (answered w) (bit x) g (8 * k)
  group_differs e lr lb before = (
    omega arith,
    before,
    λ agree. wrong
        (e ∙ eq-eqb r b (same_number 8 r b lr lb (λ j h. reads.inside served j h ∙ agree (8 * k + j) (omega arith) ∙ sym (bits j h)))),
  )

-- the places of a group
module _ (k j : ℕ) (h : j < 8) where
  pub group_of : (8 * k + j) / 8 ≡ k
  group_of = omega arith

  pub place_of : (8 * k + j) % 8 ≡ j
  place_of = omega arith

  pub repeated_here : (bytes : List ℕ) → bit_of (get_or bytes (k % length bytes) 0) j ≡ repeated bytes (8 * k + j)
  repeated_here bytes = sym (ap₂ (λ m n. bit_of (get_or bytes (m % length bytes) 0) n) group_of place_of)
