-- A byte at a group of a number's places. Assumes nothing.
use Rattle.std.proofs.Common.{◌≡◌, ℕ, ◌+◌, ◌-◌, ◌*◌, ◌/◌, ◌%◌, ◌^◌, ◌<◌, ◌≤◌, Bool, true, false, ◌⊎◌, List, length, sym, refl, ap, ◌∙◌, inl, inr, mod-lt, add-mul, div-add-mod', arith, pow_pos, shr-shr}
use native.Mathlib.Decide.{dec_lt}
use lib.Bits.{bit_and, and_mask}
use lib.Pow.{split}
use Rattle.block.specs.Rows.{bit, is_one, bit_of, row_of}
use Rattle.block.specs.Calls.{Served, Past, Put, Read}
use Rattle.block.proofs.Places.{place, place_low, place_high}
use Rattle.block.proofs.Rows.{bit_past}
use Rattle.block.proofs.Numbers.{bit_row, length_row}

-- the group k of n, as a byte
abbrev pub group : ℕ → ℕ → ℕ
group n k = n / 2 ^ (8 * k) % 2 ^ 8

-- as a program reads it
pub group_is : (n k : ℕ) → bit_and (n / 2 ^ (8 * k)) 255 ≡ group n k
group_is n k = and_mask (n / 2 ^ (8 * k)) 8

pub group_lt : (n k : ℕ) → group n k < 2 ^ 8
group_lt n k = mod-lt (n / 2 ^ (8 * k)) (pow_pos 8)

pub bit_group : (n k j : ℕ) → j < 8 → bit_of (group n k) j ≡ bit_of n (8 * k + j)
bit_group n k j h =
    let e : n / 2 ^ (8 * k) / 256 * 256 + group n k ≡ n / 2 ^ (8 * k) = div-add-mod' (n / 2 ^ (8 * k)) 256 in
    ap is_one (sym (place_low 8 j (n / 2 ^ (8 * k) / 256) (group n k) h)) ∙ ap (λ m. bit_of m j) e ∙ ap (λ x. is_one (x % 2)) (shr-shr n (8 * k) j)

-- a byte put at the group k: n is (h * 256 + old) * 2 ^ (8 k) + the places below
module _ (n k b r : ℕ) (byte : b < 2 ^ 8) (e : r + group n k * 2 ^ (8 * k) ≡ n + b * 2 ^ (8 * k)) where
  parts : (x : ℕ) → (n / 2 ^ (8 * k) / 256 * 256 + x) * 2 ^ (8 * k) + n % 2 ^ (8 * k) ≡ n / 2 ^ (8 * k) / 256 * 256 * 2 ^ (8 * k) + x * 2 ^ (8 * k) + n % 2 ^ (8 * k)
  parts x = ap (λ y. y + n % 2 ^ (8 * k)) (add-mul (n / 2 ^ (8 * k) / 256 * 256) x (2 ^ (8 * k)))

  was : (n / 2 ^ (8 * k) / 256 * 256 + group n k) * 2 ^ (8 * k) + n % 2 ^ (8 * k) ≡ n
  was = ap (λ y. y * 2 ^ (8 * k) + n % 2 ^ (8 * k)) (div-add-mod' (n / 2 ^ (8 * k)) 256) ∙ split n (8 * k)

  is : (n / 2 ^ (8 * k) / 256 * 256 + b) * 2 ^ (8 * k) + n % 2 ^ (8 * k) ≡ r
  is = omega (arith, parts b, parts (group n k), was)

  below : n % 2 ^ (8 * k) < 2 ^ (8 * k)
  below = mod-lt n (pow_pos (8 * k))

  put_before : (p : ℕ) → p < 8 * k → place r p ≡ place n p
  put_before p h =
      ap (λ x. place x p) (sym is) ∙ place_low (8 * k) p _ (n % 2 ^ (8 * k)) h
      ∙ sym (place_low (8 * k) p (n / 2 ^ (8 * k) / 256 * 256 + group n k) (n % 2 ^ (8 * k)) h) ∙ ap (λ x. place x p) was

  put_here : (p : ℕ) → 8 * k ≤ p → p < 8 * k + 8 → place r p ≡ place b (p - 8 * k)
  put_here p h l =
      ap (λ x. place x p) (sym is) ∙ place_high (8 * k) p (n / 2 ^ (8 * k) / 256 * 256 + b) (n % 2 ^ (8 * k)) below h
      ∙ place_low 8 (p - 8 * k) (n / 2 ^ (8 * k) / 256) b (omega arith)

  put_after : (p : ℕ) → 8 * k + 8 ≤ p → place r p ≡ place n p
  put_after p h =
      ap (λ x. place x p) (sym is) ∙ place_high (8 * k) p (n / 2 ^ (8 * k) / 256 * 256 + b) (n % 2 ^ (8 * k)) below (omega arith)
      ∙ place_high 8 (p - 8 * k) (n / 2 ^ (8 * k) / 256) b byte (omega arith)
      ∙ sym (place_high 8 (p - 8 * k) (n / 2 ^ (8 * k) / 256) (group n k) (mod-lt (n / 2 ^ (8 * k)) (pow_pos 8)) (omega arith))
      ∙ sym (place_high (8 * k) p (n / 2 ^ (8 * k) / 256 * 256 + group n k) (n % 2 ^ (8 * k)) below (omega arith)) ∙ ap (λ x. place x p) was

  pub row_put : (w : ℕ) → Served w k → Put w (row_of w n) k b (row_of w r)
  row_put w served =
      record {
        inside =
            λ _ j h.
            let q : 8 * k + j - 8 * k ≡ j = omega arith in
            bit_row w r (8 * k + j) (omega arith) ∙ ap is_one (put_here (8 * k + j) (omega arith) (omega arith)) ∙ ap (bit_of b) q;
        outside =
            λ _ i h.
            elim (dec_lt i w) [
              | yes l ↦ bit_row w r i l ∙ ap is_one (elim h [ inl u ↦ put_before i u | inr u ↦ put_after i u ]) ∙ sym (bit_row w n i l)
              | no l ↦ bit_past (row_of w r) i (omega (arith, length_row w r)) ∙ sym (bit_past (row_of w n) i (omega (arith, length_row w n)))
            ];
        past = λ h. absurd (omega arith);
      }

pub row_read : (w n k : ℕ) → Served w k → Read w (row_of w n) k (group n k)
row_read w n k served =
    record { inside = λ _ j h. bit_group n k j h ∙ sym (bit_row w n (8 * k + j) (omega arith)); past = λ h. absurd (omega arith) }
