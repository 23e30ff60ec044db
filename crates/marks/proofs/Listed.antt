-- The turns of a listing. Assumes nothing.
use Rattle.std.proofs.Common.{◌≡◌, ℕ, suc, ◌+◌, ◌-◌, ◌<◌, ◌≤◌, max, Bool, true, false, List, Err, [], ◌∷◌, ◌++◌, map, length, take, drop, set, sym, refl, ap, ◌∙◌, ap₂, subst, arith, le-leb}
use borrow.Author.Tests.{lt-leb}
use Rattle.std.proofs.lemmas.List.{append_assoc, length-append, length_push, take_at, drop_at, take_more_set, take-set-le, drop-set-lt, drop-drop}
use Rattle.block.specs.Rows.{bit}
use Rattle.form.specs.Positions.{line_at, start_at, place_at}
use Rattle.form.specs.Running.{places_from}
use Rattle.refusal.specs.declared.Refusal.TheVariants.{TableTooShort}
use Rattle.refusal.specs.declared.ends.End.{End}
use Rattle.marks.specs.declared.count.Lines.{Lines}
use Rattle.marks.specs.declared.line.Spot.{Spot}
use Rattle.marks.specs.Counting.{end_of, Counts, Moves}
use Rattle.marks.specs.Listing.{ends_from, Lists, ListsEnds}
use Rattle.marks.proofs.Marked.{places_quiet, places_next, places_joined}

-- ---- the ends from a place on

module _ (t : ℕ → ℕ) (bits : List Bool) (base w : ℕ) where
  at_place : (at i p : ℕ) → at + i ≡ p → bit bits (base + at + i - base) ≡ bit bits p
  at_place at i p e = let q : base + at + i - base ≡ p = omega arith in ap (bit bits) q

  -- places without an end
  pub ends_skip : (at p : ℕ) → at ≤ p → p ≤ w → ((i : ℕ) → at ≤ i → i < p → bit bits i ≡ false)
      → ends_from t bits base w at ≡ ends_from t bits base w p
  ends_skip at p h l none =
      let e : w - at ≡ p - at + (w - p) = omega arith in
      let f : base + at + (p - at) ≡ base + p = omega arith in
      ap (map end_of)
      (ap (places_from t (λ q. bit bits (q - base)) (base + at)) e
      ∙ places_joined t (λ q. bit bits (q - base)) (base + at) (p - at) (w - p)
      ∙ ap₂ ◌++◌
      (places_quiet t (λ q. bit bits (q - base)) (base + at) (p - at) (λ i k. at_place at i (at + i) refl ∙ none (at + i) (omega arith) (omega arith)))
      (ap (λ a. places_from t (λ q. bit bits (q - base)) a (w - p)) f))

  -- an end
  pub ends_here : (p : ℕ) → p < w → bit bits p ≡ true → ends_from t bits base w p ≡ end_of (place_at t (base + p)) ∷ ends_from t bits base w (p + 1)
  ends_here p l here =
      let e : base + p + 0 ≡ base + p = omega arith in
      let f : suc (base + p + 0) ≡ base + (p + 1) = omega arith in
      let g : w - p - 1 ≡ w - (p + 1) = omega arith in
      ap (map end_of)
      (places_next t (λ q. bit bits (q - base)) (base + p) (w - p) 0 (omega arith) (at_place p 0 p (omega arith) ∙ here) (λ i k. absurd (omega arith)))
      ∙ λ i. end_of (place_at t (e i)) ∷ map end_of (places_from t (λ q. bit bits (q - base)) (f i) (g i))

  -- no end more
  pub ends_none : (at : ℕ) → ((i : ℕ) → at ≤ i → i < w → bit bits i ≡ false) → ends_from t bits base w at ≡ []
  ends_none at none =
      ap (map end_of)
      (places_quiet t (λ q. bit bits (q - base)) (base + at) (w - at) (λ i k. at_place at i (at + i) refl ∙ none (at + i) (omega arith) (omega arith)))

-- ---- the table

-- these are the ends before the place `at`, and the table has them behind the first `count`
pub record Taken (all rest : List End) (before : List End) (count : ℕ) (after : List End) (got : ℕ) (Counted : Type 0) (es : List End) : Type 0 where
  pub split : all ≡ es ++ rest
  pub long : length es ≡ got - count
  pub listed : Counted → take got after ≡ take count before ++ es

module _ {B : Type 0} (row : B → List Bool) (w : ℕ) (ends : B) (old : Lines B) (before : List End) (count : ℕ) where
  abbrev pub ends_at : (ℕ → ℕ) → ℕ → List End
  ends_at t at = ends_from t (row ends) old.base w at

  pub record Listed (new : Lines B) (at : ℕ) (after : List End) (got : ℕ) : Type 0 where
    pub feeds : new.feeds ≡ old.feeds
    pub base : new.base ≡ old.base
    pub begun : old.at ≤ new.at
    pub order : new.at ≤ at
    pub within : old.at ≤ w → at ≤ w
    pub grown : count ≤ got
    pub room : got ≤ count + (length before - count)
    pub taken : (t : ℕ → ℕ) → (es : List End) × Taken (ends_at t old.at) (ends_at t at) before count after got (Counts row w t old) es
    pub counts : (t : ℕ → ℕ) → Counts row w t old → Counts row w t new
    pub kept : take count after ≡ take count before
    pub rest : drop got after ≡ drop got before

  module _ (new : Lines B) (at : ℕ) (after : List End) (got : ℕ) (L : Listed new at after got) where
    -- the ends that stand in the table, and those that are left
    front : (t : ℕ → ℕ) → Counts row w t old → take got after ≡ take count before ++ take (got - count) (ends_at t old.at)
    front t k =
        let T = (L.taken t).1 in
        T.listed k
        ∙ ap (λ l. take count before ++ l) (sym (ap (take (got - count)) T.split ∙ take_at (L.taken t).0 (ends_at t at) (got - count) T.long))

    back : (t : ℕ → ℕ) → ends_at t at ≡ drop (got - count) (ends_at t old.at)
    back t = let T = (L.taken t).1 in sym (ap (drop (got - count)) T.split ∙ drop_at (L.taken t).0 (ends_at t at) (got - count) T.long)

    many : (t : ℕ → ℕ) → length (ends_at t old.at) ≡ got - count + length (ends_at t at)
    many t =
        let T = (L.taken t).1 in
        ap length T.split ∙ length-append (L.taken t).0 (ends_at t at) ∙ ap (λ n. n + length (ends_at t at)) T.long

    -- the lines moved on to the first end from `at` on
    module _ (next : Lines B) (p : ℕ) (M : Moves row w new next (max new.at p)) (from : at ≤ p) (to : p < w) (here : bit (row ends) p ≡ true)
        (none : (i : ℕ) → at ≤ i → i < p → bit (row ends) i ≡ false) where
      there : next.at ≡ p
      there = M.at ∙ omega (arith, L.order)

      counted : (t : ℕ → ℕ) → Counts row w t old → Counts row w t next
      counted t k = M.counts t (L.counts t k)

      skipped : (t : ℕ → ℕ) → ends_at t at ≡ ends_at t p
      skipped t = ends_skip t (row ends) old.base w at p from (omega arith) none

      found : (t : ℕ → ℕ) → ends_at t at ≡ end_of (place_at t (old.base + p)) ∷ ends_at t (p + 1)
      found t = skipped t ∙ ends_here t (row ends) old.base w p to here

      -- it fits
      pub turn : (here : Spot) (e : End) → length after ≡ length before → got < length after → here.position ≡ next.base + next.at → here.line ≡ next.line
          → e ≡ record { line = here.line.number; column = here.position - here.line.start; position = here.position }
          → Listed next (p + 1) (set after got e) (got + 1)
      turn here e long fits position line is =
          record {
            feeds = M.feeds ∙ L.feeds;
            base = M.base ∙ L.base;
            begun = omega arith;
            order = omega arith;
            within = λ h. omega arith;
            grown = omega arith;
            room = omega arith;
            taken = more;
            counts = counted;
            kept = take-set-le count after got e L.grown ∙ L.kept;
            rest = drop-set-lt (got + 1) after got e (omega arith) ∙ sym (drop-drop 1 got after) ∙ ap (drop 1) L.rest ∙ drop-drop 1 got before;
          }
        where
          same : (t : ℕ → ℕ) → Counts row w t old → e ≡ end_of (place_at t (old.base + p))
          same t k =
              let c = counted t k in
              let q : next.base + next.at ≡ old.base + p = ap₂ ◌+◌ (M.base ∙ L.base) there in
              let x : here.position ≡ old.base + p = position ∙ q in
              let n : here.line.number ≡ line_at t (old.base + p) = ap (λ l. l.number) line ∙ c.line ∙ ap (line_at t) q in
              let s : here.position - here.line.start ≡ old.base + p - start_at t (old.base + p) =
              ap₂ ◌-◌ x (ap (λ l. l.start) line ∙ c.start ∙ ap (start_at t) q) in
              is ∙ λ i. record { line = n i; column = s i; position = x i }

          more : (t : ℕ → ℕ) → (es : List End) × Taken (ends_at t old.at) (ends_at t (p + 1)) before count (set after got e) (got + 1) (Counts row w t old) es
          more t =
              let es = (L.taken t).0 in
              let T = (L.taken t).1 in
              let x : End = end_of (place_at t (old.base + p)) in (
                es ++ (x ∷ []),
                record {
                  split = T.split ∙ ap (λ r. es ++ r) (found t) ∙ sym (append_assoc es (x ∷ []) (ends_at t (p + 1)));
                  long = length_push es x ∙ omega arith;
                  listed = λ k.
                      take_more_set after got e fits ∙ ap₂ (λ l y. l ++ (y ∷ [])) (T.listed k) (same t k) ∙ append_assoc (take count before) es (x ∷ []);
                },
              )

      -- it does not fit
      short : length before ≤ got → Lists row w ends old next before after count got false
      short full =
          record {
            feeds = M.feeds ∙ L.feeds;
            base = M.base ∙ L.base;
            order = omega arith;
            within = λ h. omega arith;
            passed = λ f h. cc;
            reached = λ t. let n = longer t in omega arith;
            fitted = λ t. let n = longer t in sym (lt-leb (length (ends_at t old.at)) (length before - count) (omega arith));
            left = λ t. ap (ends_at t) there ∙ sym (skipped t) ∙ back t;
            counts = counted;
            listed = front;
            kept = L.kept;
            rest = L.rest;
          }
        where
          longer : (t : ℕ → ℕ) → got - count < length (ends_at t old.at)
          longer t = let n = many t ∙ ap (λ l. got - count + length l) (found t) in omega arith

      pub refused : length before ≤ got → ListsEnds row w ends old next before after count (Err TableTooShort)
      refused full =
          let e : got ≡ max count (length before) = let g = L.grown in let r = L.room in omega arith in
          (refl, subst (λ (n : ℕ). Lists row w ends old next before after count n false) e (short full))

    -- no end more: the lines moved on behind the last place
    pub ended : (next : Lines B) → Moves row w new next (max new.at w) → ((i : ℕ) → at ≤ i → i < w → bit (row ends) i ≡ false)
        → Lists row w ends old next before after count got true
    ended next M none =
        record {
          feeds = M.feeds ∙ L.feeds;
          base = M.base ∙ L.base;
          order = omega arith;
          within = λ h. let l = L.within h in omega arith;
          passed = λ f h. let l = L.within h in let k = L.order in M.at ∙ omega arith;
          reached = λ t. let n = just t in omega arith;
          fitted = λ t. let n = just t in sym (le-leb (length (ends_at t old.at)) (length before - count) (omega arith));
          left = λ t. ends_none t (row ends) old.base w next.at (λ i h l. absurd (omega arith)) ∙ sym (nothing t) ∙ back t;
          counts = λ t k. M.counts t (L.counts t k);
          listed = front;
          kept = L.kept;
          rest = L.rest;
        }
      where
        nothing : (t : ℕ → ℕ) → ends_at t at ≡ []
        nothing t = ends_none t (row ends) old.base w at none

        just : (t : ℕ → ℕ) → length (ends_at t old.at) ≡ got - count
        just t = let n = many t ∙ ap (λ l. got - count + length l) (nothing t) in omega arith
