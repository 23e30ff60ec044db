-- One group of a block written, and read back. Assumes nothing.
use Rattle.std.proofs.Common.{◌≡◌, ℕ, ◌+◌, ◌*◌, ◌/◌, ◌%◌, ◌^◌, ◌<◌, ◌≤◌, Bool, ◌⊎◌, List, ap, ◌∙◌, subst, arith}
use native.Mathlib.Decide.{dec_lt}
use lib.Bits.{bit_and}
use Rattle.block.specs.Rows.{bit, bit_of}
use Rattle.block.specs.Calls.{Served, Put, Read}
use Rattle.block.proofs.Groups.{group_is, bit_group}
use Rattle.stream.proofs.Packs.{packed_low, packed_high, packed_lt}

-- the row has the bits worth 2 ^ j of eight gathered bytes at the group k, and elsewhere what it had
pub record Stamped (k gathered j : ℕ) (old new : List Bool) : Type 0 where
  pub inside : (n : ℕ) → n < 8 → bit new (8 * k + n) ≡ bit_of gathered (8 * n + j)
  pub outside : (i : ℕ) → (i < 8 * k) ⊎ (8 * k + 8 ≤ i) → bit new i ≡ bit old i

pub stamped : (w k gathered turned j : ℕ) (old new : List Bool) → Served w k → j < 8
    → ((j n : ℕ) → j < 8 → n < 8 → bit_of turned (8 * j + n) ≡ bit_of gathered (8 * n + j))
    → Put w old k (bit_and (turned / 2 ^ (8 * j)) 255) new → Stamped k gathered j old new
stamped w k gathered turned j old new served hj turns put =
    record {
      inside = λ n hn. put.inside served n hn ∙ ap (λ b. bit_of b n) (group_is turned j) ∙ bit_group turned j n hn ∙ turns j n hj hn;
      outside = put.outside served;
    }

-- the first s rows' groups, gathered
pub record Collected (rows : ℕ → List Bool) (k s acc : ℕ) : Type 0 where
  pub small : acc < 2 ^ (8 * s)
  pub part : (j n : ℕ) → j < s → n < 8 → bit_of acc (8 * j + n) ≡ bit (rows j) (8 * k + n)

pub collected : (w k s acc b : ℕ) (rows : ℕ → List Bool) → Served w k → s < 8 → b < 2 ^ 8 → Read w (rows s) k b → Collected rows k s acc
    → Collected rows k (s + 1) (acc + (b * 2 ^ (8 * s)) % 2 ^ 64)
collected w k s acc b rows served hs hb read C =
    record {
      small = packed_lt acc b s C.small hb hs;
      part =
          λ j n l hn.
          elim (dec_lt j s) [
            | yes u ↦ packed_low acc b s C.small hb hs (8 * j + n) (omega arith) ∙ C.part j n u hn
            | no u ↦
                let e : s ≡ j = omega arith in
                subst (λ x. bit_of (acc + (b * 2 ^ (8 * s)) % 2 ^ 64) (8 * x + n) ≡ bit (rows x) (8 * k + n)) e
                (packed_high acc b s C.small hb hs n ∙ read.inside served n hn)
          ];
    }
