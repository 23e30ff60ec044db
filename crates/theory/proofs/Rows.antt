-- Rows as lists of bits keep the laws. Assumes nothing.
use mathlib.Core.Path.{◌≡◌, refl, sym, subst}
use mathlib.Core.Bool.{Bool, false, ◌&&◌, ◌||◌}
use mathlib.Core.List.{List}
use mathlib.Core.Logic.{◌⊎◌, inl, inr}
use Prim.Native.Nat.{ℕ, zero, suc, ◌+◌, ◌-◌, ◌<◌}
use native.Mathlib.Omega.{arith}
use lib.Dec.{T}
use Rattle.block.specs.Rows.{bit, tab}
use Rattle.block.specs.Calls.{none_row, and_row, enters}
use Rattle.block.proofs.Rows.{bit_tab}
use Rattle.theory.specs.Pattern.{Streams, leaf, Matches}
use Rattle.theory.specs.Block.{Reach, class_row, bits, Has}
use Rattle.theory.proofs.Laws.{Laws}
use Rattle.form.proofs.Bits.{and_i, and_l, and_r, or_cases, or_l, or_r}
use Rattle.theory.proofs.MatchStar.{run_from, run_to, run_fall_from, run_fall_to}

-- into and out of a row by its bits
tab_to : (n : ℕ) (f : ℕ → Bool) (i : ℕ) → i < n → T (f i) → T (bit (tab n f) i)
tab_to n f i h x = subst T (sym (bit_tab n f i h)) x

tab_from : (n : ℕ) (f : ℕ → Bool) (i : ℕ) → i < n → T (bit (tab n f) i) → T (f i)
tab_from n f i h x = subst T (bit_tab n f i h) x

module _ (t : Streams) (a W : ℕ) where
  has_tab : (f : ℕ → Bool) (i : ℕ) → i < W → T (f i) → (p : ℕ) → p ≡ a + i → Has a W (tab W f) p
  has_tab f i h x p e = (i, e, h, tab_to W f i h x)

  -- the marks at places where f holds
  met_from : (f : ℕ → Bool) (m : List Bool) (i : ℕ) → i < W → T (bit (and_row W m (tab W (λ j. f (a + j)))) i) → T (bit m i) × T (f (a + i))
  met_from f m i l x =
      let y = tab_from W (λ j. bit m j && bit (tab W (λ h. f (a + h))) j) i l x in (
        and_l (bit m i) (bit (tab W (λ h. f (a + h))) i) y,
        tab_from W (λ h. f (a + h)) i l (and_r (bit m i) (bit (tab W (λ h. f (a + h))) i) y),
      )

  met_to : (f : ℕ → Bool) (m : List Bool) (i : ℕ) → i < W → T (bit m i) → T (f (a + i)) → T (bit (and_row W m (tab W (λ j. f (a + j)))) i)
  met_to f m i l x y =
      tab_to W (λ j. bit m j && bit (tab W (λ h. f (a + h))) j) i l
      (and_i (bit m i) (bit (tab W (λ h. f (a + h))) i) x (tab_to W (λ h. f (a + h)) i l y))

  moved_from : (C : ℕ) (k : Bool) (m : List Bool) (p i : ℕ) → p ≡ a + i → i < W
      → T (enters k (bit (and_row W m (class_row t a W C))) i) → Reach t a (leaf C) k (Has a W m) p
  moved_from C k m p zero e h x = inr (omega arith, x)
  moved_from C k m p (suc j) e h x =
      let y = met_from (t.class C) m j (omega arith) x in inl (a + j, (j, refl, omega arith, y.0), (omega arith, y.1))

  pub step_from : (C : ℕ) (k : Bool) (m : List Bool) (p : ℕ) → Has a W ((bits t a W).step C k m) p → Reach t a (leaf C) k (Has a W m) p
  step_from C k m p h =
      moved_from C k m p h.0 h.1 h.2 (tab_from W (enters k (bit (and_row W m (class_row t a W C)))) h.0 h.2 h.3)

  pub step_to : (C : ℕ) (k : Bool) (m : List Bool) (p : ℕ) → p < a + W → Reach t a (leaf C) k (Has a W m) p → Has a W ((bits t a W).step C k m) p
  step_to C k m p l (inl h) =
      let i : ℕ = h.1.0 in
      has_tab (enters k (bit (and_row W m (class_row t a W C)))) (suc i) (omega arith)
      (met_to (t.class C) m i h.1.2 h.1.3 (subst (λ x. T (t.class C x)) h.1.1 h.2.1)) p (omega arith)
  step_to C k m p l (inr c) =
      has_tab (enters k (bit (and_row W m (class_row t a W C)))) 0 (omega arith) c.1 p (omega arith)

  pub fall_from : 0 < W → (C : ℕ) (m : List Bool) → T ((bits t a W).fall C m) → (s : ℕ) × Has a W m s × Matches t (leaf C) s (a + W)
  fall_from w C m x =
      let y = met_from (t.class C) m (W - 1) (omega arith) x in
      (a + (W - 1), (W - 1, refl, omega arith, y.0), (omega arith, y.1))

  pub fall_to : (C : ℕ) (m : List Bool) (s : ℕ) → Has a W m s → Matches t (leaf C) s (a + W) → T ((bits t a W).fall C m)
  fall_to C m s h x =
      let e : h.0 ≡ W - 1 = omega arith in
      let f : s ≡ a + (W - 1) = omega arith in
      met_to (t.class C) m (W - 1) (omega arith) (subst (λ i. T (bit m i)) e h.3) (subst (λ i. T (t.class C i)) f x.1)

  pub both_from : (m n : List Bool) (p : ℕ) → Has a W ((bits t a W).both m n) p → Has a W m p ⊎ Has a W n p
  both_from m n p h =
      elim (or_cases (bit m h.0) (bit n h.0) (tab_from W (λ i. bit m i || bit n i) h.0 h.2 h.3))
      [ inl x ↦ inl (h.0, h.1, h.2, x) | inr x ↦ inr (h.0, h.1, h.2, x) ]

  pub kept_from : (f : ℕ → Bool) (m : List Bool) (p : ℕ) → Has a W (and_row W m (tab W (λ i. f (a + i)))) p → Has a W m p × T (f p)
  kept_from f m p h =
      let x = met_from f m h.0 h.2 h.3 in ((h.0, h.1, h.2, x.0), subst (λ y. T (f y)) (sym h.1) x.1)

  pub kept_to : (f : ℕ → Bool) (m : List Bool) (p : ℕ) → Has a W m p → T (f p) → Has a W (and_row W m (tab W (λ i. f (a + i)))) p
  kept_to f m p h x = (h.0, h.1, h.2, met_to f m h.0 h.2 h.3 (subst (λ y. T (f y)) h.1 x))

  pub laws : 0 < W → Laws t a (a + W) (List Bool) (bits t a W) (Has a W)
  laws w =
      record {
        wide = omega arith;
        low = λ m p h. omega arith;
        high = λ m p h. omega arith;
        step_from = step_from;
        step_to = step_to;
        fall_from = fall_from w;
        fall_to = fall_to;
        run_from = run_from t a W;
        run_to = run_to t a W;
        run_fall_from = run_fall_from t a W;
        run_fall_to = λ C k m. run_fall_to t a W C k m w;
        both_from = both_from;
        both_left =
            λ m n p h. has_tab (λ i. bit m i || bit n i) h.0 h.2 (or_l (bit m h.0) (bit n h.0) h.3) p h.1;
        both_right =
            λ m n p h. has_tab (λ i. bit m i || bit n i) h.0 h.2 (or_r (bit m h.0) (bit n h.0) h.3) p h.1;
        heads_from = kept_from t.starts;
        heads_to = kept_to t.starts;
        tails_from = kept_from t.feeds;
        tails_to = kept_to t.feeds;
      }

  pub blank_none : (p : ℕ) → Has a W (none_row W) p → ⊥
  blank_none p h = subst T (bit_tab W (λ i. false) h.0 h.2) h.3
