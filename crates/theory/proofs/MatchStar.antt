-- The sum gives the marks and the carry of `many C`. Assumes nothing.
use mathlib.Core.Path.{◌≡◌, refl, sym, subst, ap, ◌∙◌}
use mathlib.Core.Bool.{Bool, ◌&&◌, ◌||◌}
use mathlib.Core.List.{List}
use mathlib.Core.Logic.{inl, inr}
use Prim.Native.Nat.{ℕ, zero, suc, ◌+◌, ◌<◌, ◌≤◌}
use native.Mathlib.Omega.{arith}
use native.Mathlib.Decide.{dec_lt}
use lib.Dec.{T}
use Rattle.block.specs.Rows.{bit}
use Rattle.block.specs.Calls.{and_row, xor_row, differ}
use Rattle.block.specs.Sums.{over, sum, sum_row}
use Rattle.block.proofs.Rows.{bit_tab}
use Rattle.block.proofs.Sums.{over_ext}
use Rattle.stream.specs.MatchStar.{star_row, star_out}
use Rattle.stream.proofs.Stars.{thread, shown}
use Rattle.theory.specs.Pattern.{Streams, many, Steps, stop, more, Takes}
use Rattle.theory.specs.Block.{Cont, Reach, Has, class_row}
use Rattle.theory.proofs.Reaching.{steps_join, steps_one, steps_le}
use Rattle.form.proofs.Bits.{and_l, and_r, and_i, or_cases, or_l, or_r}

module _ (t : Streams) (a W : ℕ) (C : ℕ) (k : Bool) (m : List Bool) where
  abbrev row_of_class : List Bool
  row_of_class = class_row t a W C

  -- the marks at bytes of C, and the carry into the place i: a byte of C was taken before it
  abbrev started : ℕ → Bool
  started i = bit m i && t.class C (a + i)

  abbrev into : ℕ → Bool
  into i = over started (λ j. t.class C (a + j)) k i

  abbrev row : List Bool
  row = star_row W m row_of_class k

  at_class : (i : ℕ) → i < W → bit row_of_class i ≡ t.class C (a + i)
  at_class i l = bit_tab W (λ j. t.class C (a + j)) i l

  at_started : (i : ℕ) → i < W → bit (and_row W m row_of_class) i ≡ started i
  at_started i l = bit_tab W (λ j. bit m j && bit row_of_class j) i l ∙ ap (λ b. bit m i && b) (at_class i l)

  at_into : (i : ℕ) → i ≤ W → over (bit (and_row W m row_of_class)) (bit row_of_class) k i ≡ into i
  at_into i l =
      over_ext (bit (and_row W m row_of_class)) (bit row_of_class) started (λ j. t.class C (a + j)) k i (λ j b. at_started j (omega arith))
      (λ j b. at_class j (omega arith))

  at_row : (i : ℕ) → i < W → bit row i ≡ (bit m i || into i)
  at_row i l =
      let x : List Bool = sum_row W (and_row W m row_of_class) row_of_class k in
      let f : bit x i ≡ differ (differ (started i) (t.class C (a + i))) (into i) =
      bit_tab W (sum (bit (and_row W m row_of_class)) (bit row_of_class) k) i l
      ∙ (λ z. differ (differ (at_started i l z) (at_class i l z)) (at_into i (omega arith) z)) in
      let g : bit (xor_row W x row_of_class) i ≡ differ (differ (differ (started i) (t.class C (a + i))) (into i)) (t.class C (a + i)) =
      bit_tab W (λ j. differ (bit x j) (bit row_of_class j)) i l ∙ (λ z. differ (f z) (at_class i l z)) in
      bit_tab W (λ j. bit (xor_row W x row_of_class) j || bit m j) i l
      ∙ (ap (λ b. b || bit m i) g ∙ shown (bit m i) (t.class C (a + i)) (into i))

  into_from : (i : ℕ) → T (into (suc i)) → T (t.class C (a + i)) × T (bit m i || into i)
  unfolding over
  into_from i h =
      let x = subst T (thread (bit m i) (t.class C (a + i)) (into i)) h in
      (and_l (t.class C (a + i)) (bit m i || into i) x, and_r (t.class C (a + i)) (bit m i || into i) x)

  into_to : (i : ℕ) → T (t.class C (a + i)) → T (bit m i || into i) → T (into (suc i))
  unfolding over
  into_to i c h = subst T (sym (thread (bit m i) (t.class C (a + i)) (into i))) (and_i (t.class C (a + i)) (bit m i || into i) c h)

  into_first : into 0 ≡ k
  unfolding over
  into_first = refl

  row_from : (p : ℕ) (h : Has a W row p) → T (bit m h.0 || into h.0)
  row_from p h = subst T (at_row h.0 h.2) h.3

  row_to : (p i : ℕ) → p ≡ a + i → i < W → T (bit m i || into i) → Has a W row p
  row_to p i e l h = (i, e, l, subst T (sym (at_row i l)) h)

  abbrev R : ℕ → Type 0
  R p = Reach t a (many C) k (Has a W m) p

  reach_on : (q p : ℕ) → R q → Steps (Takes t C) p q → R p
  reach_on q p (inl h) r = inl (h.0, h.1, steps_join h.2 r)
  reach_on q p (inr c) r = inr (c.0, c.1, steps_join c.2 r)

  sound_bit : (i : ℕ) → i < W → (T (into i) → R (a + i)) → T (bit m i || into i) → R (a + i)
  sound_bit i l ih h =
      elim (or_cases (bit m i) (into i) h) [ inl x ↦ inl (a + i, (i, refl, l, x), stop refl) | inr x ↦ ih x ]

  sound_into : (i : ℕ) → i ≤ W → (p : ℕ) → p ≡ a + i → T (into i) → R p
  sound_into zero l p e h = inr (a, (refl, subst T into_first h), stop (omega arith))
  sound_into (suc i) l p e h =
      let y = into_from i h in
      reach_on (a + i) p (sound_bit i (omega arith) (sound_into i (omega arith) (a + i) refl) y.1)
      (steps_one (omega arith, y.0))

  pub run_from : (p : ℕ) → Has a W row p → R p
  run_from p h =
      subst R (sym h.1) (sound_bit h.0 h.2 (sound_into h.0 (omega arith) (a + h.0) refl) (row_from p h))

  -- one step on from a place of the row
  next : (s q : ℕ) (h : Has a W row s) → Takes t C s q → T (into (suc h.0))
  next s q h x = into_to h.0 (subst (λ y. T (t.class C y)) h.1 x.1) (row_from s h)

  step : (s q : ℕ) → q < a + W → Has a W row s → Takes t C s q → Has a W row q
  step s q l h x = row_to q (suc h.0) (omega arith) (omega arith) (or_r (bit m (suc h.0)) (into (suc h.0)) (next s q h x))

  -- the carry enters at the first place, as an own mark does at its
  first : 0 < W → T k → Has a W row a
  first w h = row_to a 0 (omega arith) w (or_r (bit m 0) (into 0) (subst T (sym into_first) h))

  own : (s : ℕ) → Has a W m s → Has a W row s
  own s h = row_to s h.0 h.1 h.2 (or_l (bit m h.0) (into h.0) h.3)

  walk : (p : ℕ) → p < a + W → {s : ℕ} → Steps (Takes t C) p s → Has a W row s → Has a W row p
  walk p l (stop e) x = subst (λ y. Has a W row y) e x
  walk p l (more {s} q h rest) x =
      walk p l rest (step s q (omega (arith, steps_le (Takes t C) (λ x y l. omega arith) rest)) x h)

  pub run_to : (p : ℕ) → p < a + W → R p → Has a W row p
  run_to p l (inl h) = walk p l h.2 (own h.0 h.1)
  run_to p l (inr c) =
      let r : Steps (Takes t C) p a = subst (λ y. Steps (Takes t C) p y) c.1.0 c.2 in
      let w : 0 < W = omega (arith, steps_le (Takes t C) (λ x y l. omega arith) r) in
      walk p l r (first w c.1.1)

  leave : (p : ℕ) → a + W ≤ p → {s : ℕ} → Steps (Takes t C) p s → Has a W row s → Cont t (a + W) (many C) (into W) p
  leave p l (stop e) x = absurd (omega arith)
  leave p l (more {s} q h rest) x =
      elim (dec_lt q (a + W)) [
        | yes q<b ↦ leave p l rest (step s q q<b x h)
        | no far ↦
            let e : suc x.0 ≡ W = omega arith in (q, (omega arith, subst (λ i. T (into i)) e (next s q x h)), rest)
      ]

  out_is : star_out W m row_of_class k ≡ into W
  out_is = at_into W (omega arith)

  pub run_fall_from : (p : ℕ) → Cont t (a + W) (many C) (star_out W m row_of_class k) p → R p
  run_fall_from p c = reach_on c.0 p (sound_into W (omega arith) c.0 c.1.0 (subst T out_is c.1.1)) c.2

  pub run_fall_to : 0 < W → (p : ℕ) → a + W ≤ p → R p → Cont t (a + W) (many C) (star_out W m row_of_class k) p
  run_fall_to w p l x = subst (λ b. Cont t (a + W) (many C) b p) (sym out_is) (go x)
    where
      go : R p → Cont t (a + W) (many C) (into W) p
      go (inl h) = leave p l h.2 (own h.0 h.1)
      go (inr c) = leave p l (subst (λ y. Steps (Takes t C) p y) c.1.0 c.2) (first w c.1.1)
