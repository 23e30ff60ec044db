-- What stars and counted repeats match, by the number of joins. Assumes nothing.
use mathlib.Core.Path.{◌≡◌, refl, sym, subst}
use mathlib.Core.Logic.{inl, inr}
use Prim.Native.Nat.{ℕ, zero, suc, ◌+◌, ◌-◌, ◌≤◌}
use native.Mathlib.Omega.{arith}
use Rattle.form.specs.Meaning.{Joins}
use Rattle.theory.specs.Pattern.{Pattern, Streams, leaf, many, plus, eps, seq, alt, opt, star, head, tail, Steps, stop, more, Matches}
use Rattle.theory.specs.Written.{loop, copies, up_to}
use Rattle.theory.proofs.Stretched.{steps_to, steps_from}

pub steps_joins : (R : ℕ → ℕ → Type 0) {p s : ℕ} → Steps R p s → (j : ℕ) × Joins R j s p
steps_joins R (stop e) = (0, e)
steps_joins R (more q h r) = let y = steps_joins R r in (suc y.0, (q, h, y.1))

pub joins_steps : (R : ℕ → ℕ → Type 0) (j : ℕ) (s p : ℕ) → Joins R j s p → Steps R p s
joins_steps R zero s p h = stop h
joins_steps R (suc j) s p h = more h.0 h.1 (joins_steps R j h.0 p h.2)

pub joins_map : (R Q : ℕ → ℕ → Type 0) → ((s p : ℕ) → R s p → Q s p) → (j s p : ℕ) → Joins R j s p → Joins Q j s p
joins_map R Q f zero s p h = h
joins_map R Q f (suc j) s p h = (h.0, f s h.0 h.1, joins_map R Q f j h.0 p h.2)

module _ (t : Streams) where
  -- a loop is a star
  pub loop_to : (F : Pattern) (s p : ℕ) → Matches t (star F) s p → Matches t (loop F) s p
  loop_to (leaf c) s p h = h
  loop_to (many c) s p h = h
  loop_to (plus c) s p h = h
  loop_to eps s p h = h
  loop_to (seq F G) s p h = steps_to t (seq F G) h
  loop_to (alt F G) s p h = steps_to t (alt F G) h
  loop_to (opt F) s p h = steps_to t (opt F) h
  loop_to (star F) s p h = h
  loop_to head s p h = h
  loop_to tail s p h = h

  pub loop_from : (F : Pattern) (s p : ℕ) → Matches t (loop F) s p → Matches t (star F) s p
  loop_from (leaf c) s p h = h
  loop_from (many c) s p h = h
  loop_from (plus c) s p h = h
  loop_from eps s p h = h
  loop_from (seq F G) s p h = steps_from t (seq F G) h
  loop_from (alt F G) s p h = steps_from t (alt F G) h
  loop_from (opt F) s p h = steps_from t (opt F) h
  loop_from (star F) s p h = h
  loop_from head s p h = h
  loop_from tail s p h = h

  module _ (F : Pattern) where
    abbrev J : ℕ → ℕ → ℕ → Type 0
    J j s p = Joins (Matches t F) j s p

    -- m copies, and then i joins
    first : (m i : ℕ) (s q p : ℕ) → Matches t (copies m F) s q → J i q p → J (m + i) s p
    first zero i s q p h y =
        let e : i ≡ 0 + i = omega arith in subst (λ j. J j s p) e (subst (λ x. J i x p) (sym h) y)
    first (suc m) i s q p h y =
        let e : suc (m + i) ≡ suc m + i = omega arith in
        subst (λ j. J j s p) e (h.0, h.1, first m i h.0 q p h.2 y)

    apart : (m j : ℕ) → m ≤ j → (s p : ℕ) → J j s p → (q : ℕ) × Matches t (copies m F) s q × J (j - m) q p
    apart zero j l s p h = (s, refl, subst (λ x. J x s p) (omega arith) h)
    apart (suc m) zero l s p h = absurd (omega arith)
    apart (suc m) (suc j) l s p h =
        let y = apart m j (omega arith) h.0 p h.2 in
        let e : j - m ≡ suc j - suc m = omega arith in
        (y.0, (h.0, h.1, y.1), subst (λ x. J x y.0 p) e y.2)

    up_joins : (d : ℕ) (s p : ℕ) → Matches t (up_to d F) s p → (j : ℕ) × (j ≤ d) × J j s p
    up_joins zero s p h = (0, omega arith, h)
    up_joins (suc d) s p (inl h) = (0, omega arith, h)
    up_joins (suc d) s p (inr h) = let y = up_joins d h.0 p h.2 in (suc y.0, omega arith, (h.0, h.1, y.2))

    joins_up : (d j : ℕ) → j ≤ d → (s p : ℕ) → J j s p → Matches t (up_to d F) s p
    joins_up zero zero l s p h = h
    joins_up zero (suc j) l s p h = absurd (omega arith)
    joins_up (suc d) zero l s p h = inl h
    joins_up (suc d) (suc j) l s p h = inr (h.0, h.1, joins_up d j (omega arith) h.0 p h.2)

    -- from least to most copies
    abbrev pub Counted : ℕ → ℕ → ℕ → ℕ → Type 0
    Counted least most s p = (k : ℕ) × (least ≤ k) × (k ≤ most) × J k s p

    pub rep_from : (least most s p : ℕ) → least ≤ most
        → Matches t (seq (copies least F) (up_to (most - least) F)) s p → Counted least most s p
    rep_from least most s p l h =
        let y = up_joins (most - least) h.0 p h.2 in
        (least + y.0, omega arith, omega arith, first least y.0 s h.0 p h.1 y.2)

    pub rep_to : (least most s p : ℕ) → Counted least most s p → Matches t (seq (copies least F) (up_to (most - least) F)) s p
    rep_to least most s p h =
        let y = apart least h.0 h.1 s p h.3 in
        (y.0, y.1, joins_up (most - least) (h.0 - least) (omega arith) y.0 p y.2)
