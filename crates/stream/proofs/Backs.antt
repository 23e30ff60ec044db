-- The turns of `back`. Assumes nothing.
use Rattle.std.proofs.Common.{◌≡◌, ℕ, ◌+◌, ◌*◌, ◌/◌, ◌%◌, ◌^◌, ◌<◌, ◌≤◌, max, Bool, List, length, get_or, set, Ok, Err, Result, sym, ap, ◌∙◌, subst, inl, inr, mod-eq_of_lt, arith, get_or-set_other, get_or-set_same}
use native.Mathlib.Decide.{dec_lt}
use lib.Bits.{bit_and}
use Rattle.block.specs.Rows.{bit, bit_of}
use Rattle.block.proofs.Groups.{group, group_is, group_lt, bit_group}
use Rattle.block.proofs.Numbers.{value_of}
use Rattle.block.proofs.Rows.{bit_tab, value_ext}
use Rattle.block.specs.Calls.{answered}
use Rattle.refusal.specs.declared.Refusal.{Refusal}
use Rattle.stream.specs.Tables.{rows, held, basis, Transposed, Returns, RoundTrip, Keeps}

-- the eight bytes from 8 k on, gathered
abbrev Group : (ℕ → List Bool) → ℕ → ℕ → Type 0
Group rows k gathered = (j n : ℕ) → j < 8 → n < 8 → bit_of gathered (8 * n + j) ≡ bit (rows j) (8 * k + n)

-- after i bytes: the buffer has them, and their unfinished group is at hand
pub record Filled (rows : ℕ → List Bool) (i gathered : ℕ) (buffer : List ℕ) : Type 0 where
  pub group : (i % 8 ≡ 0 → ⊥) → Group rows (i / 8) gathered
  pub done : (p : ℕ) → p < i → get_or buffer p 0 ≡ held rows p

-- a byte by its bits
pub byte_held : (rows : ℕ → List Bool) (p b : ℕ) → b < 2 ^ 8 → ((j : ℕ) → j < 8 → bit_of b j ≡ bit (rows j) p) → b ≡ held rows p
byte_held rows p b h e = sym (mod-eq_of_lt h) ∙ value_of 8 b ∙ value_ext 8 (bit_of b) (λ j. bit (rows j) p) e

module _ (rows : ℕ → List Bool) (i gathered : ℕ) (buffer : List ℕ) (here : i < length buffer) (G : Group rows (i / 8) gathered)
    (done : (p : ℕ) → p < i → get_or buffer p 0 ≡ held rows p) where
  abbrev next : List ℕ
  next = set buffer i (bit_and (gathered / 2 ^ (8 * (i % 8))) 255)

  byte : bit_and (gathered / 2 ^ (8 * (i % 8))) 255 ≡ held rows i
  byte =
      let e : 8 * (i / 8) + i % 8 ≡ i = omega arith in
      group_is gathered (i % 8)
      ∙ byte_held rows i (group gathered (i % 8)) (group_lt gathered (i % 8))
      (λ j hj. bit_group gathered (i % 8) j hj ∙ G j (i % 8) hj (omega arith) ∙ ap (bit (rows j)) e)

  pub filled : Filled rows (i + 1) gathered next
  filled =
      record {
        group = λ h j n hj hn. let e : i / 8 ≡ (i + 1) / 8 = omega arith in G j n hj hn ∙ ap (λ k. bit (rows j) (8 * k + n)) e;
        done =
            λ p l.
            elim (dec_lt p i) [
              | yes u ↦ get_or-set_other buffer i p _ 0 (λ e. omega arith) ∙ done p u
              | no u ↦
                  let e : i ≡ p = omega arith in
                  subst (λ q. get_or next q 0 ≡ held rows q) e (get_or-set_same buffer i _ 0 here ∙ byte)
            ];
      }

-- the rows of bytes hold the bytes
pub held_basis : (w : ℕ) (bytes : List ℕ) (rows : ℕ → List Bool) → ((j : ℕ) → j < 8 → rows j ≡ basis w bytes j) → (i : ℕ) → i < w → get_or bytes i 0 < 2 ^ 8
    → held rows i ≡ get_or bytes i 0
held_basis w bytes rows h i l f =
    sym (byte_held rows i (get_or bytes i 0) f (λ j u. sym (ap (λ r. bit r i) (h j u) ∙ bit_tab w (λ p. bit_of (get_or bytes p 0) j) i l)))

-- what `back` gives of a table that `transpose` has filled
pub round_trip : {B : Type 0} (row : B → List Bool) (w : ℕ) (bytes old new : List ℕ) (before table : List B) (r : Result (Unit {0}) Refusal)
    → 8 ≤ length before → max (length bytes) (length old) ≤ answered w → length table ≡ length before → ((i : ℕ) → get_or bytes i 0 < 2 ^ 8)
    → Transposed row w bytes before table → Returns row w table old new r
    → RoundTrip (length before) (answered w) bytes old new r × Keeps row w bytes before table r
round_trip row w bytes old new before table (Ok _) eight most long byte t h =
    ((eight, omega arith, omega arith, λ i l. h.2 i l ∙ held_basis w bytes (rows row table) t.first i (omega arith) (byte i)), t)
round_trip row w bytes old new before table (Err e) eight most long byte t (inl d, same) = absurd (omega arith)
round_trip row w bytes old new before table (Err e) eight most long byte t (inr d, same) = absurd (omega arith)
