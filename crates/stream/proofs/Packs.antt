-- Bytes gathered in a number, the first the lowest, and the turns of the loops that do so. Assumes nothing.
use Rattle.std.proofs.Common.{◌≡◌, ℕ, ◌+◌, ◌-◌, ◌*◌, ◌/◌, ◌%◌, ◌^◌, ◌<◌, ◌≤◌, Bool, false, cond, ltb, ◌⊎◌, List, length, get_or, sym, refl, ap, ◌∙◌, subst, inl, inr, arith, pow_mono, pow-add, shl_exact, le-ltb, lt-ltb}
use native.Mathlib.Decide.{dec_lt}
use lib.Arith.{digits_lt}
use Rattle.std.proofs.lemmas.List.{get_or_past}
use Rattle.block.specs.Rows.{bit, tab, is_one, bit_of}
use Rattle.block.proofs.Places.{place_low, place_high, place_past, zero_place}
use Rattle.block.proofs.Rows.{bit_tab, tab_is}
use Rattle.stream.specs.Tables.{rows, basis}
use Rattle.stream.proofs.Tables.{rows_wide}

pub bit_zero : (i : ℕ) → bit_of 0 i ≡ false
bit_zero i = ap is_one (zero_place i)

-- ---- one byte more above s others

module _ (acc b s : ℕ) (small : acc < 2 ^ (8 * s)) (byte : b < 2 ^ 8) (room : s < 8) where
  pub packed_is : acc + (b * 2 ^ (8 * s)) % 2 ^ 64 ≡ b * 2 ^ (8 * s) + acc
  packed_is = ap (λ n. acc + n) (shl_exact 8 (8 * s) 64 byte (omega arith)) ∙ omega arith

  pub packed_lt : acc + (b * 2 ^ (8 * s)) % 2 ^ 64 < 2 ^ (8 * (s + 1))
  packed_lt =
      let e : 2 ^ (8 * (s + 1)) ≡ 2 ^ 8 * 2 ^ (8 * s) = ap (λ n. 2 ^ n) (omega arith) ∙ pow-add 2 8 (8 * s) in
      subst (λ n. acc + (b * 2 ^ (8 * s)) % 2 ^ 64 < n) (sym e) (subst (λ n. n < 2 ^ 8 * 2 ^ (8 * s)) (sym packed_is) (digits_lt byte small))

  pub packed_fits : acc + (b * 2 ^ (8 * s)) % 2 ^ 64 < 2 ^ 64
  packed_fits = let top : 2 ^ (8 * (s + 1)) ≤ 2 ^ 64 = pow_mono {i = 8 * (s + 1)} {j = 64} (omega arith) in omega (arith, packed_lt, top)

  pub packed_low : (p : ℕ) → p < 8 * s → bit_of (acc + (b * 2 ^ (8 * s)) % 2 ^ 64) p ≡ bit_of acc p
  packed_low p l = ap (λ n. bit_of n p) packed_is ∙ ap is_one (place_low (8 * s) p b acc l)

  pub packed_high : (n : ℕ) → bit_of (acc + (b * 2 ^ (8 * s)) % 2 ^ 64) (8 * s + n) ≡ bit_of b n
  packed_high n =
      let e : 8 * s + n - 8 * s ≡ n = omega arith in
      ap (λ m. bit_of m (8 * s + n)) packed_is ∙ ap is_one (place_high (8 * s) (8 * s + n) b acc small (omega arith)) ∙ ap (bit_of b) e

-- ---- transposition, after i bytes: the whole groups are delivered, and the rest of the bytes gathered

-- the bytes before place m
abbrev up_to : ℕ → List ℕ → ℕ → ℕ
up_to m bytes p = cond (ltb p m) (get_or bytes p 0) 0

up_before : (m : ℕ) (bytes : List ℕ) (p : ℕ) → p < m → up_to m bytes p ≡ get_or bytes p 0
up_before m bytes p l = ap (λ t. cond t (get_or bytes p 0) 0) (lt-ltb p m l)

up_past : (m : ℕ) (bytes : List ℕ) (p : ℕ) → m ≤ p → up_to m bytes p ≡ 0
up_past m bytes p l = ap (λ t. cond t (get_or bytes p 0) 0) (le-ltb p m l)

pub record Turned {B : Type 0} (row : B → List Bool) (w : ℕ) (bytes : List ℕ) (i : ℕ) (table : List B) (gathered : ℕ) : Type 0 where
  pub small : gathered < 2 ^ (8 * (i % 8))
  pub part : (n j : ℕ) → n < i % 8 → j < 8 → bit_of gathered (8 * n + j) ≡ bit_of (get_or bytes (8 * (i / 8) + n) 0) j
  pub done : (j p : ℕ) → j < 8 → p < w → bit (rows row table j) p ≡ bit_of (up_to (8 * (i / 8)) bytes p) j
  pub eight : length table ≡ 8

module _ {B : Type 0} (row : B → List Bool) (w : ℕ) (bytes : List ℕ) where
  pub begun : (table : List B) → length table ≡ 8 → ((j : ℕ) → j < 8 → rows row table j ≡ tab w (λ i. false)) → Turned row w bytes 0 table 0
  begun table eight h =
      record {
        small = omega arith;
        part = λ n j l. absurd (omega arith);
        done =
            λ j p hj hp.
            ap (λ r. bit r p) (h j hj) ∙ bit_tab w (λ i. false) p hp ∙ sym (ap (λ b. bit_of b j) (up_past 0 bytes p (omega arith)) ∙ bit_zero j);
        eight = eight;
      }

  module _ (i : ℕ) (table : List B) (gathered : ℕ) (T : Turned row w bytes i table gathered) where
    -- a group of s bytes is delivered at k, and no byte stands behind them
    module _ (s : ℕ) (g : ℕ) (m : ℕ) (next : List B) (few : s ≤ 8)
        (small : g < 2 ^ (8 * s)) (part : (n j : ℕ) → n < s → j < 8 → bit_of g (8 * n + j) ≡ bit_of (get_or bytes (8 * (i / 8) + n) 0) j)
        (inside : (j n : ℕ) → j < 8 → n < 8 → bit (rows row next j) (8 * (i / 8) + n) ≡ bit_of g (8 * n + j))
        (outside : (j p : ℕ) → j < 8 → (p < 8 * (i / 8)) ⊎ (8 * (i / 8) + 8 ≤ p) → bit (rows row next j) p ≡ bit (rows row table j) p)
        (F : ℕ → ℕ) (before : (p : ℕ) → p < 8 * (i / 8) + s → F p ≡ get_or bytes p 0) (past : (p : ℕ) → 8 * (i / 8) + s ≤ p → F p ≡ 0) where
      delivered : (j p : ℕ) → j < 8 → p < w → bit (rows row next j) p ≡ bit_of (F p) j
      delivered j p hj hp =
          let k : ℕ = i / 8 in
          elim (dec_lt p (8 * k)) [
            | yes u ↦
                outside j p hj (inl u) ∙ T.done j p hj hp ∙ ap (λ b. bit_of b j) (up_before (8 * k) bytes p u ∙ sym (before p (omega arith)))
            | no u ↦
                elim (dec_lt p (8 * k + 8)) [
                  | yes v ↦
                      let n : ℕ = p - 8 * k in
                      let e : 8 * k + n ≡ p = omega arith in
                      ap (bit (rows row next j)) (sym e) ∙ inside j n hj (omega arith)
                      ∙ elim (dec_lt n s) [
                        | yes q ↦ part n j q hj ∙ ap (λ x. bit_of (get_or bytes x 0) j) e ∙ ap (λ b. bit_of b j) (sym (before p (omega arith)))
                        | no q ↦
                            ap is_one (place_past (8 * s) g (8 * n + j) small (omega arith)) ∙ sym (ap (λ b. bit_of b j) (past p (omega arith)) ∙ bit_zero j)
                      ]
                  | no v ↦
                      outside j p hj (inr (omega arith)) ∙ T.done j p hj hp
                      ∙ ap (λ b. bit_of b j) (up_past (8 * k) bytes p (omega arith) ∙ sym (past p (omega arith)))
                ]
          ]

    -- a byte more
    module _ (byte : get_or bytes i 0 < 2 ^ 8) where
      abbrev more : ℕ
      more = gathered + (get_or bytes i 0 * 2 ^ (8 * (i % 8))) % 2 ^ 64

      low : i % 8 < 8
      low = omega arith

      more_part : (n j : ℕ) → n < i % 8 + 1 → j < 8 → bit_of more (8 * n + j) ≡ bit_of (get_or bytes (8 * (i / 8) + n) 0) j
      more_part n j l hj =
          elim (dec_lt n (i % 8)) [
            | yes u ↦ packed_low gathered (get_or bytes i 0) (i % 8) T.small byte low (8 * n + j) (omega arith) ∙ T.part n j u hj
            | no u ↦
                let e : i % 8 ≡ n = omega arith in
                let q : i ≡ 8 * (i / 8) + n = omega arith in
                ap (λ x. bit_of more (8 * x + j)) (sym e) ∙ packed_high gathered (get_or bytes i 0) (i % 8) T.small byte low j
                ∙ ap (λ x. bit_of (get_or bytes x 0) j) q
          ]

      pub turn_fits : more < 2 ^ 64
      turn_fits = packed_fits gathered (get_or bytes i 0) (i % 8) T.small byte low

      pub turn_part : (i % 8 ≡ 7 → ⊥) → Turned row w bytes (i + 1) table more
      turn_part h =
          let a : i % 8 + 1 ≡ (i + 1) % 8 = omega arith in
          let b : i / 8 ≡ (i + 1) / 8 = omega arith in
          record {
            small = subst (λ s. more < 2 ^ (8 * s)) a (packed_lt gathered (get_or bytes i 0) (i % 8) T.small byte low);
            part = λ n j l hj. more_part n j (omega arith) hj ∙ ap (λ k. bit_of (get_or bytes (8 * k + n) 0) j) b;
            done = λ j p hj hp. T.done j p hj hp ∙ ap (λ k. bit_of (up_to (8 * k) bytes p) j) b;
            eight = T.eight;
          }

      pub turn_full : i % 8 ≡ 7 → (next : List B) → length next ≡ 8
          → ((j n : ℕ) → j < 8 → n < 8 → bit (rows row next j) (8 * (i / 8) + n) ≡ bit_of more (8 * n + j))
          → ((j p : ℕ) → j < 8 → (p < 8 * (i / 8)) ⊎ (8 * (i / 8) + 8 ≤ p) → bit (rows row next j) p ≡ bit (rows row table j) p)
          → Turned row w bytes (i + 1) next 0
      turn_full h next eight inside outside =
          let z : (i + 1) % 8 ≡ 0 = omega arith in
          let s : i % 8 + 1 ≡ 8 = omega arith in
          let m : 8 * (i / 8) + 8 ≡ 8 * ((i + 1) / 8) = omega arith in
          record {
            small = subst (λ n. 0 < 2 ^ (8 * n)) (sym z) (omega arith);
            part = λ n j l. absurd (omega arith);
            done =
                λ j p hj hp.
                delivered 8 more 0 next (omega arith) (subst (λ n. more < 2 ^ (8 * n)) s (packed_lt gathered (get_or bytes i 0) (i % 8) T.small byte low))
                (λ n j l. more_part n j (omega arith)) inside outside (up_to (8 * (i / 8) + 8) bytes) (up_before (8 * (i / 8) + 8) bytes) (up_past (8 * (i / 8) + 8) bytes) j p hj hp
                ∙ ap (λ x. bit_of (up_to x bytes p) j) m;
            eight = eight;
          }

    -- the end
    module _ (all : i ≡ length bytes) (wide : (b : B) → length (row b) ≡ w) where
      as_row : (next : List B) → length next ≡ 8 → ((j p : ℕ) → j < 8 → p < w → bit (rows row next j) p ≡ bit_of (get_or bytes p 0) j) → (j : ℕ) → j < 8 → rows row next j ≡ basis w bytes j
      as_row next eight h j hj = tab_is (rows row next j) w (λ p. bit_of (get_or bytes p 0) j) (rows_wide row w wide next j (omega arith)) (λ p hp. h j p hj hp)

      pub end_whole : i % 8 ≡ 0 → (j : ℕ) → j < 8 → rows row table j ≡ basis w bytes j
      end_whole h = as_row table T.eight (λ j p hj hp. T.done j p hj hp ∙ ap (λ b. bit_of b j) (same p))
        where
          same : (p : ℕ) → up_to (8 * (i / 8)) bytes p ≡ get_or bytes p 0
          same p =
              elim (dec_lt p (8 * (i / 8))) [
                | yes u ↦ up_before (8 * (i / 8)) bytes p u
                | no u ↦ up_past (8 * (i / 8)) bytes p (omega arith) ∙ sym (get_or_past bytes p 0 (omega arith))
              ]

      pub end_part : (next : List B) → length next ≡ 8
          → ((j n : ℕ) → j < 8 → n < 8 → bit (rows row next j) (8 * (length bytes / 8) + n) ≡ bit_of gathered (8 * n + j))
          → ((j p : ℕ) → j < 8 → (p < 8 * (length bytes / 8)) ⊎ (8 * (length bytes / 8) + 8 ≤ p) → bit (rows row next j) p ≡ bit (rows row table j) p)
          → (j : ℕ) → j < 8 → rows row next j ≡ basis w bytes j
      end_part next eight inside outside =
          as_row next eight
          (delivered (i % 8) gathered 0 next (omega arith) T.small T.part
          (subst (λ n. (j m : ℕ) → j < 8 → m < 8 → bit (rows row next j) (8 * (n / 8) + m) ≡ bit_of gathered (8 * m + j)) (sym all) inside)
          (subst (λ n. (j p : ℕ) → j < 8 → (p < 8 * (n / 8)) ⊎ (8 * (n / 8) + 8 ≤ p) → bit (rows row next j) p ≡ bit (rows row table j) p) (sym all) outside)
          (λ p. get_or bytes p 0) (λ p l. refl) (λ p l. get_or_past bytes p 0 (omega arith)))
