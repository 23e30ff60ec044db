-- Rows by their changes. Assumes nothing.
use Rattle.std.proofs.Common.{◌≡◌, ℕ, zero, suc, ◌+◌, ◌%◌, ◌<◌, ◌≤◌, Bool, true, false, not, ◌&&◌, ◌||◌, eqb, leb, ltb, List, [], ◌∷◌, ◌++◌, length, get_or, take, drop, set, sym, refl, ap, ◌∙◌, subst, ap₂, subst₂, arith, take-append-drop, length-take-le, take-suc, take-suc-set, eq-eqb, ne_eqb, eqb-true, le-leb, leb-true}
use native.Mathlib.Decide.{dec_lt}
use lib.ListN.{get_or-eq_default}
use borrow.Author.Tests.{lt-leb, ltb-true, ltb-false}
use Rattle.std.specs.List.{AllWithin}
use Rattle.std.specs.List.Sorted.{IsPartitionedBy}
use Rattle.std.proofs.lemmas.List.Sorted.{IsNonDecreasingBy-from_default, IsPartitionedBy-ltb}
use Rattle.block.specs.Calls.{differ, enters}
use Rattle.block.proofs.Rows.{wrong}
use Rattle.runlist.specs.Changes.{odd, shown, rises, among, KeepsChanges}

-- ---- exactly one of bits

differ_true : (b : Bool) → differ true b ≡ not b
differ_true true = refl
differ_true false = refl

differ_false : (b : Bool) → differ false b ≡ b
differ_false true = refl
differ_false false = refl

differ_none : (b : Bool) → differ b false ≡ b
differ_none true = refl
differ_none false = refl

differ_one : (b : Bool) → differ b true ≡ not b
differ_one true = refl
differ_one false = refl

differ_assoc : (x y z : Bool) → differ (differ x y) z ≡ differ x (differ y z)
differ_assoc true true true = refl
differ_assoc true true false = refl
differ_assoc true false true = refl
differ_assoc true false false = refl
differ_assoc false true true = refl
differ_assoc false true false = refl
differ_assoc false false true = refl
differ_assoc false false false = refl

-- ---- rising places

-- the places rise, from k on and below e
abbrev pub Rising : ℕ → ℕ → List ℕ → Type 0
Rising k e [] = k ≤ e
Rising k e (x ∷ l) = (k ≤ x) × Rising (suc x) e l

pub rises_to : (k e : ℕ) (l : List ℕ) → rises k e l ≡ true → Rising k e l
rises_to k e [] h = leb-true k e h
rises_to k e (x ∷ l) h = let p = both (leb k x) (rises (suc x) e l) h in (leb-true k x p.0, rises_to (suc x) e l p.1)
  where
    both : (x y : Bool) → (x && y) ≡ true → (x ≡ true) × (y ≡ true)
    both true y e = (refl, e)
    both false y e = wrong e

pub to_rises : (k e : ℕ) (l : List ℕ) → Rising k e l → rises k e l ≡ true
to_rises k e [] h = le-leb k e h
to_rises k e (x ∷ l) h = ap₂ ◌&&◌ (le-leb k x h.0) (to_rises (suc x) e l h.1)

rising_le : (k e : ℕ) (l : List ℕ) → Rising k e l → k ≤ e
rising_le k e [] h = h
rising_le k e (x ∷ l) h = omega (arith, rising_le (suc x) e l h.1, h.0)

rising_snoc : (k p : ℕ) (l : List ℕ) → Rising k p l → Rising k (suc p) (l ++ (p ∷ []))
rising_snoc k p [] h = (h, omega arith)
rising_snoc k p (x ∷ l) h = (h.0, rising_snoc (suc x) p l h.1)

rising_more : (k e f : ℕ) (l : List ℕ) → e ≤ f → Rising k e l → Rising k f l
rising_more k e f [] u h = omega arith
rising_more k e f (x ∷ l) u h = (h.0, rising_more (suc x) e f l u h.1)

pub rises_more : (k e f : ℕ) (l : List ℕ) → e ≤ f → rises k e l ≡ true → rises k f l ≡ true
rises_more k e f l u h = to_rises k f l (rising_more k e f l u (rises_to k e l h))

-- the changes before a change are below it, and those from it on are not
rising_cut : (k e n : ℕ) (l : List ℕ) → n ≤ length l → Rising k e l → Rising k (get_or l n e) (take n l) × Rising (get_or l n e) e (drop n l)
rising_cut k e zero [] h up = (up, omega arith)
rising_cut k e zero (x ∷ l) h up = (up.0, (omega arith, up.1))
rising_cut k e (suc n) [] h up = absurd (omega arith)
rising_cut k e (suc n) (x ∷ l) h up = let c = rising_cut (suc x) e n l (omega arith) up.1 in ((up.0, c.0), c.1)

rising_next : (k e n : ℕ) (l : List ℕ) → n < length l → Rising k e l → get_or l n e < get_or l (suc n) e
rising_next k e n [] h up = absurd (omega arith)
rising_next k e zero (x ∷ []) h up = up.1
rising_next k e zero (x ∷ (y ∷ l)) h up = up.1.0
rising_next k e (suc n) (x ∷ l) h up = rising_next (suc x) e n l (omega arith) up.1

rising_mono : (k e i j : ℕ) (l : List ℕ) → i ≤ j → j < length l → Rising k e l → get_or l i e ≤ get_or l j e
rising_mono k e i j [] h u up = absurd (omega arith)
rising_mono k e zero zero (x ∷ l) h u up = omega arith
rising_mono k e zero (suc j) (x ∷ l) h u up = omega (arith, rising_le (suc x) (get_or l j e) (take j l) (rising_cut (suc x) e j l (omega arith) up.1).0)
rising_mono k e (suc i) zero (x ∷ l) h u up = absurd (omega arith)
rising_mono k e (suc i) (suc j) (x ∷ l) h u up = rising_mono (suc x) e i j l (omega arith) (omega arith) up.1

-- ---- bits

shown_append : (l m : List ℕ) (j : ℕ) → shown (l ++ m) j ≡ differ (shown l j) (shown m j)
shown_append [] m j = sym (differ_false (shown m j))
shown_append (x ∷ l) m j = ap (differ (leb x j)) (shown_append l m j) ∙ sym (differ_assoc (leb x j) (shown l j) (shown m j))

-- before the first change nothing, and behind the last what their number says
shown_early : (k e j : ℕ) (l : List ℕ) → j < k → Rising k e l → shown l j ≡ false
shown_early k e j [] u h = refl
shown_early k e j (x ∷ l) u h = ap₂ differ (lt-leb x j (omega (arith, h.0))) (shown_early (suc x) e j l (omega (arith, h.0)) h.1)

shown_past : (k e j : ℕ) (l : List ℕ) → e ≤ suc j → Rising k e l → shown l j ≡ odd (length l)
shown_past k e j [] u h = refl
shown_past k e j (x ∷ l) u h =
    ap₂ differ (le-leb x j (omega (arith, rising_le (suc x) e l h.1))) (shown_past (suc x) e j l u h.1) ∙ differ_true (odd (length l))

-- ---- what is kept

differ_comm : (x y : Bool) → differ x y ≡ differ y x
differ_comm true true = refl
differ_comm true false = refl
differ_comm false true = refl
differ_comm false false = refl

swapped : (a b c d : Bool) → differ (differ a b) (differ c d) ≡ differ (differ a c) (differ b d)
swapped a b c d =
    differ_assoc a b (differ c d) ∙ ap (differ a) (sym (differ_assoc b c d) ∙ ap (λ x. differ x d) (differ_comm b c) ∙ differ_assoc c b d)
    ∙ sym (differ_assoc a c (differ b d))

enters_differ : (f g : ℕ → Bool) (i : ℕ) → enters false (λ j. differ (f j) (g j)) i ≡ differ (enters false f i) (enters false g i)
enters_differ f g zero = refl
enters_differ f g (suc i) = refl

-- one change turns the bit at its place, from one place to the next
one_change : (x i : ℕ) → eqb x i ≡ differ (leb x i) (enters false (leb x) i)
one_change x zero = elim (dec_lt 0 x) [
  | yes u ↦ ne_eqb x 0 (λ q. omega arith) ∙ sym (ap (λ b. differ b false) (lt-leb x 0 u))
  | no u ↦ eq-eqb x 0 (omega arith) ∙ sym (ap (λ b. differ b false) (le-leb x 0 (omega arith)))
]
one_change x (suc i) = elim (dec_lt (suc i) x) [
  | yes u ↦ ne_eqb x (suc i) (λ q. omega arith) ∙ sym (ap₂ differ (lt-leb x (suc i) u) (lt-leb x i (omega arith)))
  | no u ↦ elim (dec_lt i x) [
    | yes v ↦ eq-eqb x (suc i) (omega arith) ∙ sym (ap₂ differ (le-leb x (suc i) (omega arith)) (lt-leb x i v))
    | no v ↦ ne_eqb x (suc i) (λ q. omega arith) ∙ sym (ap₂ differ (le-leb x (suc i) (omega arith)) (le-leb x i (omega arith)))
  ]
]

-- a place before the changes is not among them
not_among : (k e i : ℕ) (l : List ℕ) → i < k → Rising k e l → among l i ≡ false
not_among k e i [] u h = refl
not_among k e i (x ∷ l) u h = ap₂ ◌||◌ (ne_eqb x i (λ q. omega (arith, h.0))) (not_among (suc x) e i l (omega (arith, h.0)) h.1)

kept_are_changes : (k e : ℕ) (l : List ℕ) → Rising k e l → (i : ℕ) → among l i ≡ differ (shown l i) (enters false (shown l) i)
kept_are_changes k e [] h zero = refl
kept_are_changes k e [] h (suc i) = refl
kept_are_changes k e (x ∷ l) h i =
    either (eqb x i) refl
    ∙ ap₂ differ (one_change x i) (kept_are_changes (suc x) e l h.1 i)
    ∙ swapped (leb x i) (enters false (leb x) i) (shown l i) (enters false (shown l) i)
    ∙ ap (differ (differ (leb x i) (shown l i))) (sym (enters_differ (leb x) (shown l) i))
  where
    either : (b : Bool) → eqb x i ≡ b → (b || among l i) ≡ differ b (among l i)
    either true q = ap (differ true) (sym (not_among (suc x) e i l (omega (arith, eqb-true x i q)) h.1))
    either false q = sym (differ_false (among l i))

pub keeps_changes_lem : KeepsChanges
keeps_changes_lem e l up = kept_are_changes 0 e l (rises_to 0 e l up)

-- oddness as the code tests it
pub odd_test : (n : ℕ) → eqb (n % 2) 1 ≡ odd n
odd_test zero = refl
odd_test (suc n) = step (n % 2) (suc n % 2) (odd n) (omega arith) (omega arith) (odd_test n)
  where
    step : (d e : ℕ) (b : Bool) → d < 2 → d + e ≡ 1 → eqb d 1 ≡ b → eqb e 1 ≡ not b
    step zero e b h s q = let one : e ≡ 1 = omega arith in ap (λ x. eqb x 1) one ∙ ap not q
    step (suc zero) e b h s q = let none : e ≡ 0 = omega arith in ap (λ x. eqb x 1) none ∙ ap not q
    step (suc (suc d)) e b h s q = absurd (omega arith)

-- ---- a cursor in the changes l, which are below e; its next change is get_or l n e, where n are passed

module _ (e : ℕ) (l : List ℕ) (up : rises 0 e l ≡ true) where
  rise : Rising 0 e l
  rise = rises_to 0 e l up

  pub change_is : (n : ℕ) → get_or l n e < e → n < length l
  change_is n h = elim (dec_lt n (length l)) [
    | yes u ↦ u
    | no u ↦ let d : get_or l n e ≡ e = get_or-eq_default l e {n = n} (omega arith) in absurd (omega arith)
  ]

  pub change_le : (n : ℕ) → n ≤ length l → get_or l n e ≤ e
  change_le n h = rising_le (get_or l n e) e (drop n l) (rising_cut 0 e n l h rise).1

  -- the changes up to the change n
  passed_more : (n : ℕ) → n < length l → Rising 0 (suc (get_or l n e)) (take (suc n) l)
  passed_more n h =
      subst (Rising 0 (suc (get_or l n e))) (sym (take-suc l n e h)) (rising_snoc 0 (get_or l n e) (take n l) (rising_cut 0 e n l (omega arith) rise).0)

  pub pass_more : (n p : ℕ) → get_or l n e < p → p ≤ e → rises 0 p (take (n + 1) l) ≡ true
  pass_more n p h u =
      let s : n + 1 ≡ suc n = omega arith in
      ap (λ m. rises 0 p (take m l)) s ∙ to_rises 0 p _ (rising_more 0 (suc (get_or l n e)) p (take (suc n) l) h (passed_more n (change_is n (omega arith))))

  -- the changes that are before p are found by halving
  pub partitioned : (p : ℕ) → IsPartitionedBy (λ y. ltb y p) l
  partitioned p = IsPartitionedBy-ltb (λ y. y) l p (IsNonDecreasingBy-from_default (λ y. y) l e (λ i j h u. rising_mono 0 e i j l h u rise))

  pub passed_before : (n p : ℕ) → n ≤ length l → p ≤ e → AllWithin (λ y. ltb y p ≡ true) l 0 n → rises 0 p (take n l) ≡ true
  passed_before zero p h u below = le-leb 0 p (omega arith)
  passed_before (suc n) p h u below =
      let s : suc n ≡ n + 1 = omega arith in
      ap (λ m. rises 0 p (take m l)) s ∙ pass_more n p (ltb-true _ p (below n e (omega arith) (omega arith))) u

  pub next_behind : (n p : ℕ) → n ≤ length l → p ≤ e → AllWithin (λ y. ltb y p ≡ false) l n (length l) → p ≤ get_or l n e
  next_behind n p h u behind = elim (dec_lt n (length l)) [
    | yes v ↦ ltb-false _ p (behind n e (omega arith) v)
    | no v ↦ let d : get_or l n e ≡ e = get_or-eq_default l e {n = n} (omega arith) in omega arith
  ]

  -- the bit between the change that is passed and the next one
  pub run_bit : (n p j : ℕ) → n ≤ length l → rises 0 (p + 1) (take n l) ≡ true → p ≤ j → j < get_or l n e → shown l j ≡ odd n
  run_bit n p j within before low high =
      ap (λ m. shown m j) (sym (take-append-drop n l)) ∙ shown_append (take n l) (drop n l) j
      ∙ ap₂ differ (shown_past 0 (p + 1) j (take n l) (omega arith) (rises_to 0 (p + 1) (take n l) before) ∙ ap odd (length-take-le n l within))
      (shown_early (get_or l n e) e j (drop n l) high (rising_cut 0 e n l within rise).1)
      ∙ differ_none (odd n)

  -- and the other bit at the next one
  pub run_turn : (n : ℕ) → get_or l n e < e → shown l (get_or l n e) ≡ not (odd n)
  run_turn n h =
      let some : n < length l = change_is n h in
      let s : get_or l n e + 1 ≡ suc (get_or l n e) = omega arith in
      run_bit (suc n) (get_or l n e) (get_or l n e) some (ap (λ q. rises 0 q (take (suc n) l)) s ∙ to_rises 0 _ _ (passed_more n some)) (omega arith) (rising_next 0 e n l some rise)

  -- the run at the place p, where m changes are up to p
  pub record Ran (m p : ℕ) : Type 0 where
    pub within : m ≤ length l
    pub some : p < get_or l m e
    pub ends : get_or l m e ≤ e
    pub before : rises 0 (p + 1) (take m l) ≡ true

  module _ (n m p : ℕ) (within : n ≤ length l) (lt : p < e) where
    -- the next change is at p
    pub run_hit : get_or l n e ≡ p → m ≡ n + 1 → Ran m p
    run_hit h q =
        let some : n < length l = change_is n (omega arith) in
        let s : suc n ≡ n + 1 = omega arith in
        subst (λ k. Ran k p) (sym q) (record {
          within = omega arith;
          ends = change_le (n + 1) (omega arith);
          some = subst (λ k. p < get_or l k e) s (omega (arith, rising_next 0 e n l some rise));
          before = pass_more n (p + 1) (omega arith) (omega arith);
        })

    -- it is behind p
    pub run_stay : rises 0 p (take n l) ≡ true → p ≤ get_or l n e → (get_or l n e ≡ p → ⊥) → m ≡ n → Ran m p
    run_stay before h u q =
        subst (λ k. Ran k p) (sym q) (record {
          within = within;
          ends = change_le n within;
          some = omega arith;
          before = rises_more 0 p (p + 1) (take n l) (omega arith) before;
        })

-- the bit behind all changes
pub last_bit : (e j : ℕ) (l : List ℕ) → rises 0 e l ≡ true → e ≤ suc j → shown l j ≡ odd (length l)
last_bit e j l up h = shown_past 0 e j l h (rises_to 0 e l up)

-- ---- one bit for the places from p up to q, behind the n changes in xs: the k changes in ys

pub record Pushed (xs : List ℕ) (n : ℕ) (ys : List ℕ) (k p q : ℕ) (b : Bool) : Type 0 where
  pub room : k ≤ q
  pub rising : rises 0 q (take k ys) ≡ true
  pub here : (j : ℕ) → p ≤ j → j < q → shown (take k ys) j ≡ b
  pub before : (j : ℕ) → j < p → shown (take k ys) j ≡ shown (take n xs) j

module _ (xs : List ℕ) (n p q : ℕ) (b : Bool) (ys : List ℕ) (k : ℕ) (room : n ≤ p) (long : n ≤ length xs) (up : rises 0 p (take n xs) ≡ true) where
  old : Rising 0 p (take n xs)
  old = rises_to 0 p (take n xs) up

  was : (j : ℕ) → p ≤ j → shown (take n xs) j ≡ odd n
  was j h = shown_past 0 p j (take n xs) (omega arith) old ∙ ap odd (length-take-le n xs long)

  -- the bit is another
  pub push_turn : p < q → n < length xs → not (odd n) ≡ b → ys ≡ set xs n p → k ≡ n + 1 → Pushed xs n ys k p q b
  push_turn h some e y c =
      let s : n + 1 ≡ suc n = omega arith in
      let grown : take (n + 1) (set xs n p) ≡ take n xs ++ (p ∷ []) = ap (λ m. take m (set xs n p)) s ∙ take-suc-set xs n p some in
      let shown-grown : (j : ℕ) → shown (take (n + 1) (set xs n p)) j ≡ differ (shown (take n xs) j) (leb p j) =
      λ j. ap (λ l. shown l j) grown ∙ shown_append (take n xs) (p ∷ []) j ∙ ap (differ (shown (take n xs) j)) (differ_none (leb p j)) in
      subst₂ (λ z i. Pushed xs n z i p q b) (sym y) (sym c) (record {
        room = omega arith;
        rising = ap (rises 0 q) grown ∙ to_rises 0 q _ (rising_more 0 (suc p) q _ h (rising_snoc 0 p (take n xs) old));
        here = λ j u v. shown-grown j ∙ ap₂ differ (was j u) (le-leb p j u) ∙ differ_one (odd n) ∙ e;
        before = λ j u. shown-grown j ∙ ap (differ (shown (take n xs) j)) (lt-leb p j u) ∙ differ_none (shown (take n xs) j);
      })

  -- the bit stays, or there is no place for it
  pub push_stay : p ≤ q → (p < q → odd n ≡ b) → ys ≡ xs → k ≡ n → Pushed xs n ys k p q b
  push_stay h e y c =
      subst₂ (λ z i. Pushed xs n z i p q b) (sym y) (sym c) (record {
        room = omega arith;
        rising = rises_more 0 p q (take n xs) h up;
        here = λ j u v. was j u ∙ e (omega arith);
        before = λ j u. refl;
      })
