-- Ones at some places of a number. Assumes nothing.
use Rattle.std.proofs.Common.{◌≡◌, ℕ, ◌-◌, ◌*◌, ◌%◌, ◌^◌, ◌<◌, ◌≤◌, Bool, true, false, ◌||◌, ap, ◌∙◌, ap₂, arith, pow_mono, shl_exact}
use lib.Bits.{bit_or}
use Rattle.block.specs.Rows.{is_one, bit_of}
use Rattle.std.proofs.Math.Bool.{or-true, or-false}
use Rattle.std.proofs.lemmas.Nat.Bits.{bit_at_mask_inside, bit_at_mask_below, bit_at_mask_above}
use Rattle.block.proofs.Numbers.{bit_or_lem}

-- what the code of a one at j computes
one_at : (j : ℕ) → j ≤ 8 → (1 * 2 ^ j) % 2 ^ 16 ≡ 2 ^ j
one_at j h = shl_exact 1 j 16 (omega arith) (omega arith) ∙ omega arith

module _ (byte low high : ℕ) (up : low ≤ high) (top : high ≤ 8) where
  pub no_wrap : (1 * 2 ^ low) % 2 ^ 16 ≤ (1 * 2 ^ high) % 2 ^ 16
  no_wrap = let m : 2 ^ low ≤ 2 ^ high = pow_mono up in omega (arith, one_at low (omega arith), one_at high top)

  abbrev pub ones : ℕ
  ones = (1 * 2 ^ high) % 2 ^ 16 - (1 * 2 ^ low) % 2 ^ 16

  is : ones ≡ 2 ^ high - 2 ^ low
  is = ap₂ ◌-◌ (one_at high top) (one_at low (omega arith))

  or_bit : (j : ℕ) (b : Bool) → bit_of (2 ^ high - 2 ^ low) j ≡ b → bit_of (bit_or byte ones) j ≡ (bit_of byte j || b)
  or_bit j b e = bit_or_lem byte ones j ∙ ap (λ n. bit_of byte j || bit_of n j) is ∙ ap (λ x. bit_of byte j || x) e

  pub ones_within : (j : ℕ) → low ≤ j → j < high → bit_of (bit_or byte ones) j ≡ true
  ones_within j h l = or_bit j true (ap is_one (bit_at_mask_inside low high j h l)) ∙ or-true (bit_of byte j)

  pub ones_below : (j : ℕ) → j < low → bit_of (bit_or byte ones) j ≡ bit_of byte j
  ones_below j h = or_bit j false (ap is_one (bit_at_mask_below low high j h)) ∙ or-false (bit_of byte j)

  pub ones_above : (j : ℕ) → high ≤ j → bit_of (bit_or byte ones) j ≡ bit_of byte j
  ones_above j h = or_bit j false (ap is_one (bit_at_mask_above low high j h)) ∙ or-false (bit_of byte j)
