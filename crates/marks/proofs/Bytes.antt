-- Bytes put into a block: a single one, and ones from the first place on. Assumes nothing.
use Rattle.std.proofs.Common.{◌≡◌, ℕ, ◌+◌, ◌-◌, ◌*◌, ◌/◌, ◌%◌, ◌^◌, ◌<◌, ◌≤◌, min, Bool, false, eqb, ltb, List, length, sym, ap, ◌∙◌, inl, inr, arith, pow_pos, le-ltb, lt-ltb, eq-eqb, ne_eqb}
use native.Mathlib.Decide.{dec_lt}
use Rattle.std.specs.Cmp.Derive.{one_truth}
use Rattle.std.proofs.lemmas.Bool.{ltb-true}
use Rattle.std.proofs.lemmas.Bool.Decides.{eqb_tells}
use Rattle.block.specs.Rows.{bit, tab, is_one, bit_of}
use Rattle.block.specs.Calls.{widest, answered, none_row, Served, Put}
use Rattle.block.proofs.Places.{place, place_low, place_high, place_past, place_ones, zero_place}
use Rattle.block.proofs.Rows.{bit_at, tab_ext, tab_is}

-- the bits of a power of two, and of the number before it
pow_bit : (m j : ℕ) → bit_of (2 ^ m) j ≡ eqb j m
pow_bit m j =
    elim (dec_lt j m) [
      | yes l ↦ ap is_one (ap (λ n. place n j) parts ∙ place_low m j 1 0 l ∙ zero_place j) ∙ sym (ne_eqb j m (λ e. omega arith))
      | no l ↦ ap is_one (ap (λ n. place n j) parts ∙ place_high m j 1 0 (pow_pos m) (omega arith)) ∙ top (omega arith)
    ]
  where
    parts : 2 ^ m ≡ 1 * 2 ^ m + 0
    parts = omega arith

    top : m ≤ j → is_one (place 1 (j - m)) ≡ eqb j m
    top h =
        elim (dec_lt m j) [
          | yes l ↦ ap is_one (place_past 1 1 (j - m) (omega arith) (omega arith)) ∙ sym (ne_eqb j m (λ e. omega arith))
          | no l ↦ let e : j - m ≡ 0 = omega arith in ap (λ i. is_one (place 1 i)) e ∙ sym (eq-eqb j m (omega arith))
        ]

ones_bit : (m j : ℕ) → bit_of (2 ^ m - 1) j ≡ ltb j m
ones_bit m j =
    elim (dec_lt j m) [
      | yes l ↦ ap is_one (place_ones m j l) ∙ sym (lt-ltb j m l)
      | no l ↦ ap is_one (place_past m (2 ^ m - 1) j (omega (arith, pow_pos m)) (omega arith)) ∙ sym (le-ltb j m (omega arith))
    ]

pub ltb_same : (a b c d : ℕ) → (a < b → c < d) → (c < d → a < b) → ltb a b ≡ ltb c d
ltb_same a b c d to from = one_truth (ltb a b) (ltb c d) (λ e. lt-ltb c d (to (ltb-true a b e))) (λ e. lt-ltb a b (from (ltb-true c d e)))

-- one bit in a block of zeros
pub put_one : (w : ℕ) (a r : List Bool) (p byte : ℕ) → w % 8 ≡ 0 → length r ≡ w → a ≡ none_row w → byte ≡ 2 ^ (p % 8)
    → p < answered w → Put w a (p / 8) byte r → r ≡ tab w (λ i. eqb i p)
put_one w a r p byte whole long none one h put = tab_is r w (λ i. eqb i p) long at
  where
    served : Served w (p / 8)
    served = omega arith

    at : (i : ℕ) → i < w → bit r i ≡ eqb i p
    at i l =
        elim (dec_lt i (8 * (p / 8))) [
          | yes k ↦ put.outside served i (inl k) ∙ bit_at w a (λ _. false) none i l ∙ sym (ne_eqb i p (λ e. omega arith))
          | no k ↦
              elim (dec_lt i (8 * (p / 8) + 8)) [
                | yes m ↦
                    let j : ℕ = i - 8 * (p / 8) in
                    let e : i ≡ 8 * (p / 8) + j = omega arith in
                    ap (bit r) e ∙ put.inside served j (omega arith) ∙ ap (λ n. bit_of n j) one ∙ pow_bit (p % 8) j ∙ inner j e
                | no m ↦ put.outside served i (inr (omega arith)) ∙ bit_at w a (λ _. false) none i l ∙ sym (ne_eqb i p (λ e. omega arith))
              ]
        ]
      where
        inner : (j : ℕ) → i ≡ 8 * (p / 8) + j → eqb j (p % 8) ≡ eqb i p
        inner j e =
            elim (eqb_tells j (p % 8)) [
              | inl q ↦ q.0 ∙ sym (eq-eqb i p (omega arith))
              | inr q ↦ q.0 ∙ sym (ne_eqb i p (λ f. q.1 (omega arith)))
            ]

-- m ones more, at the group k, behind the ones before it
pub put_more : (w : ℕ) (a r : List Bool) (k m byte : ℕ) → m ≤ 8 → byte ≡ 2 ^ m - 1 → Served w k → Put w a k byte r
    → ((i : ℕ) → i < w → bit a i ≡ ltb i (8 * k)) → (i : ℕ) → i < w → bit r i ≡ ltb i (8 * k + m)
put_more w a r k m byte few ones served put before i l =
    elim (dec_lt i (8 * k)) [
      | yes h ↦ put.outside served i (inl h) ∙ before i l ∙ ltb_same i (8 * k) i (8 * k + m) (λ q. omega arith) (λ q. h)
      | no h ↦
          elim (dec_lt i (8 * k + 8)) [
            | yes n ↦
                let j : ℕ = i - 8 * k in
                let e : i ≡ 8 * k + j = omega arith in
                ap (bit r) e ∙ put.inside served j (omega arith) ∙ ap (λ b. bit_of b j) ones ∙ ones_bit m j
                ∙ ltb_same j m i (8 * k + m) (λ q. omega arith) (λ q. omega arith)
            | no n ↦ put.outside served i (inr (omega arith)) ∙ before i l ∙ ltb_same i (8 * k) i (8 * k + m) (λ q. omega arith) (λ q. omega arith)
          ]
    ]

-- the ones that are left, of n in all; behind the last place there are none
pub put_last : (w : ℕ) (a r : List Bool) (n byte : ℕ) → w % 8 ≡ 0 → length r ≡ w → n ≤ answered w → byte ≡ 2 ^ (n % 8) - 1
    → Put w a (n / 8) byte r → ((i : ℕ) → i < w → bit a i ≡ ltb i (8 * (n / 8))) → r ≡ tab w (λ i. ltb i n)
put_last w a r n byte whole long few ones put before =
    tab_is r w (λ i. ltb i n) long
    (λ i l.
    elim (dec_lt (8 * (n / 8) + 7) (answered w)) [
      | yes served ↦
          let e : 8 * (n / 8) + n % 8 ≡ n = omega arith in
          put_more w a r (n / 8) (n % 8) byte (omega arith) ones served put before i l ∙ ap (ltb i) e
      | no past ↦
          let e : 8 * (n / 8) ≡ n = omega arith in
          ap (λ x. bit x i) (put.past (omega arith)) ∙ before i l ∙ ap (ltb i) e
    ])

-- where the answered width is the width, it takes nothing away
pub below_whole : (w n : ℕ) → w ≤ widest → tab w (λ i. ltb i (min n (answered w))) ≡ tab w (λ i. ltb i n)
below_whole w n h =
    tab_ext w (λ i. ltb i (min n (answered w))) (λ i. ltb i n)
    (λ i l. ltb_same i (min n (answered w)) i n (λ q. omega arith) (λ q. omega arith))
