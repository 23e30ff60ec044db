-- Sets of numbers cut in halves, and the rows that choose between them. Assumes nothing.
use Rattle.std.proofs.Common.{◌≡◌, ℕ, suc, ◌+◌, ◌-◌, ◌*◌, ◌/◌, ◌%◌, ◌^◌, ◌<◌, ◌≤◌, Bool, true, false, cond, not, ◌&&◌, ltb, List, sym, refl, ap, ◌∙◌, subst, ap₂, mod-lt, pow-suc, arith, pow_pos, pow_mono, shl_exact, shr_lt, le-ltb, lt-ltb}
use lib.Bits.{bit_and, and_mask}
use lib.Pow.{split}
use Rattle.block.specs.Rows.{bit, tab, worth, value, is_one, bit_of}
use Rattle.block.specs.Calls.{and_row, xor_row, not_row, differ}
use Rattle.block.proofs.Places.{place_low, place_high, zero_place}
use Rattle.block.proofs.Rows.{bit_at, tab_ext, value_lt}
use Rattle.stream.specs.Tables.{held_by, held}

-- ---- choosing

pick : (x h l : Bool) → differ l (differ l h && x) ≡ cond x h l
pick true true true = refl
pick true true false = refl
pick true false true = refl
pick true false false = refl
pick false true true = refl
pick false true false = refl
pick false false true = refl
pick false false false = refl

pub chosen : (w : ℕ) (by high low apart some r : List Bool) → apart ≡ xor_row w low high → some ≡ and_row w apart by → r ≡ xor_row w low some
    → r ≡ tab w (λ i. cond (bit by i) (bit high i) (bit low i))
chosen w by high low apart some r ea es er =
    er
    ∙ tab_ext w _ _
    (λ i l. ap (differ (bit low i)) (bit_at w some _ es i l ∙ ap (λ x. x && bit by i) (bit_at w apart _ ea i l)) ∙ pick (bit by i) (bit high i) (bit low i))

-- ---- a set and its halves

module _ (w : ℕ) (rows : ℕ → List Bool) where
  -- the set of the number 0 alone
  pub among_one : (set : ℕ) (r : List Bool) → (set ≡ 0 → ⊥) → set < 2 → r ≡ tab w (λ i. true) → r ≡ tab w (λ i. bit_of set (held_by 0 rows i))
  unfolding value
  among_one set r h l e = let one : 1 ≡ set = omega arith in e ∙ ap (λ s. tab w (λ i. bit_of s 0)) one

  module _ (n set half : ℕ) (is : half ≡ 2 ^ n) where
    side : (low high : ℕ) → set ≡ high * 2 ^ half + low → low < 2 ^ half → (x : Bool) (v : ℕ) → v < half → cond x (bit_of high v) (bit_of low v) ≡ bit_of set (v + worth x * 2 ^ n)
    side low high e hl true v l =
        let q : v + 1 * 2 ^ n - half ≡ v = omega arith in
        sym (ap (λ s. bit_of s (v + 1 * 2 ^ n)) e ∙ ap is_one (place_high half (v + 1 * 2 ^ n) high low hl (omega arith)) ∙ ap (bit_of high) q)
    side low high e hl false v l =
        let q : v + 0 * 2 ^ n ≡ v = omega arith in sym (ap (bit_of set) q ∙ ap (λ s. bit_of s v) e ∙ ap is_one (place_low half v high low l))

    pub among_halves : (low high : ℕ) → set ≡ high * 2 ^ half + low → low < 2 ^ half → (r : List Bool)
        → r ≡ tab w (λ i. cond (bit (rows n) i) (bit_of high (held_by n rows i)) (bit_of low (held_by n rows i))) → r ≡ tab w (λ i. bit_of set (held_by (suc n) rows i))
    unfolding value
    among_halves low high e hl r er =
        er ∙ tab_ext w _ _ (λ i l. side low high e hl (bit (rows n) i) (held_by n rows i) (subst (λ h. held_by n rows i < h) (sym is) (value_lt n _)))

  -- ---- the ways of `halves`

  module _ (n low high : ℕ) (by : List Bool) (eb : rows n ≡ by) where
    only_low : (x l : Bool) → (l && not x) ≡ cond x false l
    only_low true true = refl
    only_low true false = refl
    only_low false true = refl
    only_low false false = refl

    only_high : (x h : Bool) → (h && x) ≡ cond x h false
    only_high true true = refl
    only_high true false = refl
    only_high false true = refl
    only_high false false = refl

    pub low_half : high ≡ 0 → (some turned r : List Bool) → some ≡ tab w (λ i. bit_of low (held_by n rows i)) → turned ≡ not_row w by → r ≡ and_row w some turned
        → r ≡ tab w (λ i. cond (bit (rows n) i) (bit_of high (held_by n rows i)) (bit_of low (held_by n rows i)))
    low_half e some turned r es et er =
        er
        ∙ tab_ext w _ _
        (λ i l.
        ap₂ ◌&&◌ (bit_at w some _ es i l) (bit_at w turned _ et i l ∙ ap (λ x. not (bit x i)) (sym eb)) ∙ only_low (bit (rows n) i) (bit_of low (held_by n rows i))
        ∙ ap (λ x. cond (bit (rows n) i) x (bit_of low (held_by n rows i))) (sym (ap (λ s. bit_of s (held_by n rows i)) e ∙ ap is_one (zero_place (held_by n rows i)))))

    pub high_half : low ≡ 0 → (some r : List Bool) → some ≡ tab w (λ i. bit_of high (held_by n rows i)) → r ≡ and_row w some by
        → r ≡ tab w (λ i. cond (bit (rows n) i) (bit_of high (held_by n rows i)) (bit_of low (held_by n rows i)))
    high_half e some r es er =
        er
        ∙ tab_ext w _ _
        (λ i l.
        ap₂ ◌&&◌ (bit_at w some _ es i l) (ap (λ x. bit x i) (sym eb)) ∙ only_high (bit (rows n) i) (bit_of high (held_by n rows i))
        ∙ ap (λ x. cond (bit (rows n) i) (bit_of high (held_by n rows i)) x) (sym (ap (λ s. bit_of s (held_by n rows i)) e ∙ ap is_one (zero_place (held_by n rows i)))))

    pub both_halves : (h l r : List Bool) → h ≡ tab w (λ i. bit_of high (held_by n rows i)) → l ≡ tab w (λ i. bit_of low (held_by n rows i)) → r ≡ tab w (λ i. cond (bit by i) (bit h i) (bit l i))
        → r ≡ tab w (λ i. cond (bit (rows n) i) (bit_of high (held_by n rows i)) (bit_of low (held_by n rows i)))
    both_halves h l r eh el er =
        er
        ∙ tab_ext w _ _
        (λ i u.
        let x : bit by i ≡ bit (rows n) i = ap (λ y. bit y i) (sym eb) in
        let p = bit_at w h _ eh i u in
        let q = bit_at w l _ el i u in
        λ z. cond (x z) (p z) (q z))

-- ---- the numbers that the code makes of a set

-- the low half of a set, as the code masks it
abbrev pub lower : ℕ → ℕ → ℕ
lower set half = bit_and set ((1 * 2 ^ half) % 2 ^ 128 - 1)

pub record Cut (n set half : ℕ) : Type 0 where
  pub is : half ≡ 2 ^ (n - 1)
  pub fits : half < 128
  pub room : 1 ≤ (1 * 2 ^ half) % 2 ^ 128
  pub lowest : lower set half < 2 ^ half
  pub low : lower set half < 2 ^ (2 ^ (n - 1))
  pub high : set / 2 ^ half < 2 ^ (2 ^ (n - 1))
  pub whole : set ≡ set / 2 ^ half * 2 ^ half + lower set half

-- a set of the numbers of n bits, cut at half of them, as the code shifts it
pub cut : (n set : ℕ) → 0 < n → n ≤ 7 → set < 2 ^ (2 ^ n) → Cut n set ((1 * 2 ^ (n - 1)) % 2 ^ 64)
cut n set some few small =
    let half : ℕ = (1 * 2 ^ (n - 1)) % 2 ^ 64 in
    let is : half ≡ 2 ^ (n - 1) = shl_exact 1 (n - 1) 64 (omega arith) (omega arith) ∙ omega arith in
    let e : n ≡ suc (n - 1) = omega arith in
    let twice : 2 ^ n ≡ 2 ^ (n - 1) * 2 = ap (λ k. 2 ^ k) e ∙ pow-suc 2 (n - 1) in
    let top : 2 ^ n ≤ 2 ^ 7 = pow_mono {i = n} {j = 7} few in
    let exact : 2 ^ n ≡ half + half = omega arith in
    let mask : (1 * 2 ^ half) % 2 ^ 128 ≡ 2 ^ half = shl_exact 1 half 128 (omega arith) (omega arith) ∙ omega arith in
    let low : lower set half ≡ set % 2 ^ half = ap (λ m. bit_and set (m - 1)) mask ∙ and_mask set half in
    let lowest : lower set half < 2 ^ half = subst (λ n. n < 2 ^ half) (sym low) (mod-lt set (pow_pos half)) in
    record {
      is = is;
      fits = omega arith;
      room = subst (λ m. 1 ≤ m) (sym mask) (pow_pos half);
      lowest = lowest;
      low = subst (λ h. lower set half < 2 ^ h) is lowest;
      high = subst (λ h. set / 2 ^ half < 2 ^ h) is (shr_lt half half (subst (λ n. set < 2 ^ n) exact small));
      whole = sym (ap (λ n. set / 2 ^ half * 2 ^ half + n) low ∙ split set half);
    }

-- ---- the whole byte

held_next : (rows : ℕ → List Bool) (i : ℕ) → held rows i ≡ held_by 7 rows i + worth (bit (rows 7) i) * 128
unfolding value
held_next rows i = refl

pub class_held : (w low high : ℕ) (rows : ℕ → List Bool) (r : List Bool)
    → r ≡ tab w (λ i. cond (bit (rows 7) i) (bit_of high (held_by 7 rows i)) (bit_of low (held_by 7 rows i)))
    → r ≡ tab w (λ i. cond (ltb (held rows i) 128) (bit_of low (held rows i)) (bit_of high (held rows i - 128)))
class_held w low high rows r er = er ∙ tab_ext w _ _ (λ i l. go i (bit (rows 7) i) refl)
  where
    go : (i : ℕ) (x : Bool) → bit (rows 7) i ≡ x
        → cond x (bit_of high (held_by 7 rows i)) (bit_of low (held_by 7 rows i)) ≡ cond (ltb (held rows i) 128) (bit_of low (held rows i)) (bit_of high (held rows i - 128))
    go i true e =
        let b = held_next rows i ∙ ap (λ x. held_by 7 rows i + worth x * 128) e in
        let q : held_by 7 rows i ≡ held rows i - 128 = omega arith in
        ap (bit_of high) q ∙ sym (ap (λ t. cond t (bit_of low (held rows i)) (bit_of high (held rows i - 128))) (le-ltb (held rows i) 128 (omega arith)))
    go i false e =
        let b = held_next rows i ∙ ap (λ x. held_by 7 rows i + worth x * 128) e in
        let lt : held_by 7 rows i < 128 = value_lt 7 _ in
        let q : held_by 7 rows i ≡ held rows i = omega arith in
        ap (bit_of low) q ∙ sym (ap (λ t. cond t (bit_of low (held rows i)) (bit_of high (held rows i - 128))) (lt-ltb (held rows i) 128 (omega arith)))
