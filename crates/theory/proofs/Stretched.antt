-- A star whose leaves are stretched matches what the star does. Assumes nothing.
use mathlib.Core.Path.{◌≡◌, refl, sym, subst}
use mathlib.Core.Bool.{Bool, true, false, cond, ◌&&◌}
use mathlib.Core.Logic.{inl, inr}
use Prim.Native.Nat.{ℕ}
use lib.Dec.{T}
use Rattle.form.proofs.Bits.{and_l, and_r, or_cases}
use Rattle.theory.specs.Pattern.{Pattern, Streams, leaf, many, plus, eps, seq, alt, opt, star, head, tail, Steps, stop, more, Takes, Matches}
use Rattle.theory.specs.Written.{empty, stretch}
use Rattle.theory.proofs.Reaching.{steps_join, steps_one}

module _ (t : Streams) where
  empty_matches : (F : Pattern) → T (empty F) → (s : ℕ) → Matches t F s s
  empty_matches (leaf c) h s = absurd h
  empty_matches (many c) h s = stop refl
  empty_matches (plus c) h s = absurd h
  empty_matches eps h s = refl
  empty_matches (seq F G) h s = (s, empty_matches F (and_l (empty F) (empty G) h) s, empty_matches G (and_r (empty F) (empty G) h) s)
  empty_matches (alt F G) h s =
      elim (or_cases (empty F) (empty G) h) [ inl x ↦ inl (empty_matches F x s) | inr x ↦ inr (empty_matches G x s) ]
  empty_matches (opt F) h s = inl refl
  empty_matches (star F) h s = stop refl
  empty_matches head h s = absurd h
  empty_matches tail h s = absurd h

  leaf_to : (b : Bool) (c s p : ℕ) → Takes t c s p → Matches t (cond b (plus c) (leaf c)) s p
  leaf_to true c s p h = (p, h, stop refl)
  leaf_to false c s p h = h

  stretch_to : (b e : Bool) (F : Pattern) (s p : ℕ) → Matches t F s p → Matches t (stretch b e F) s p
  stretch_to b e (leaf c) s p h = leaf_to (b && e) c s p h
  stretch_to b e (many c) s p h = h
  stretch_to b e (plus c) s p h = h
  stretch_to b e eps s p h = h
  stretch_to b e (seq F G) s p h =
      (h.0, stretch_to b (e && empty G) F s h.0 h.1, stretch_to (b && empty F) e G h.0 p h.2)
  stretch_to b e (alt F G) s p (inl h) = inl (stretch_to b e F s p h)
  stretch_to b e (alt F G) s p (inr h) = inr (stretch_to b e G s p h)
  stretch_to b e (opt F) s p (inl h) = inl h
  stretch_to b e (opt F) s p (inr h) = inr (stretch_to b e F s p h)
  stretch_to b e (star F) s p h = h
  stretch_to b e head s p h = h
  stretch_to b e tail s p h = h

  pub steps_to : (F : Pattern) {p s : ℕ} → Steps (Matches t F) p s → Steps (Matches t (stretch true true F)) p s
  steps_to F (stop e) = stop e
  steps_to F (more {s} q h r) = more q (stretch_to true true F s q h) (steps_to F r)

  -- In the star of B: what has been matched of B up to a part of it, and then that part too.
  module _ (B : Pattern) where
    abbrev After : (ℕ → ℕ → Type 0) → Pattern → ℕ → ℕ → Type 0
    After Pre F x q = (s : ℕ) × Pre x s × Matches t F s q

    -- some whole matches of B, and then Pre
    abbrev Stars : (ℕ → ℕ → Type 0) → ℕ → ℕ → Type 0
    Stars Pre o s = (x : ℕ) × Steps (Matches t B) x o × Pre x s

    plain : (Pre : ℕ → ℕ → Type 0) (F : Pattern) (o s q : ℕ) → Stars Pre o s → Matches t F s q → Stars (After Pre F) o q
    plain Pre F o s q a h = (a.0, a.1, (s, a.2, h))

    -- from any position on, and up to the end of a match of B: a leaf goes on with the next match of B
    run : (c : ℕ) (Pre : ℕ → ℕ → Type 0) → ((s : ℕ) → Pre s s) → ((x q : ℕ) → After Pre (leaf c) x q → Matches t B x q)
        → (o q : ℕ) {r : ℕ} → Steps (Takes t c) q r → (s : ℕ) → Stars Pre o s → Takes t c s r → Stars (After Pre (leaf c)) o q
    run c Pre here whole o q (stop {s = r} e) s a h = subst (λ z. Stars (After Pre (leaf c)) o z) e (plain Pre (leaf c) o s r a h)
    run c Pre here whole o q (more {s = r} u k rest) s a h =
        run c Pre here whole o q rest r (r, steps_join a.1 (steps_one (whole a.0 r (s, a.2, h))), here r) k

    leaf_from : (b e : Bool) (c : ℕ) (Pre : ℕ → ℕ → Type 0) → (T b → (s : ℕ) → Pre s s)
        → (T e → (x q : ℕ) → After Pre (leaf c) x q → Matches t B x q)
        → (o s q : ℕ) → Stars Pre o s → Matches t (cond (b && e) (plus c) (leaf c)) s q → Stars (After Pre (leaf c)) o q
    leaf_from true true c Pre here whole o s q a h = run c Pre (here tt) (whole tt) o q h.2 s a h.1
    leaf_from true false c Pre here whole o s q a h = plain Pre (leaf c) o s q a h
    leaf_from false e c Pre here whole o s q a h = plain Pre (leaf c) o s q a h

    stretch_from : (b e : Bool) (F : Pattern) (Pre : ℕ → ℕ → Type 0) → (T b → (s : ℕ) → Pre s s)
        → (T e → (x q : ℕ) → After Pre F x q → Matches t B x q)
        → (o s q : ℕ) → Stars Pre o s → Matches t (stretch b e F) s q → Stars (After Pre F) o q
    stretch_from b e (leaf c) Pre here whole o s q a h = leaf_from b e c Pre here whole o s q a h
    stretch_from b e (many c) Pre here whole o s q a h = plain Pre (many c) o s q a h
    stretch_from b e (plus c) Pre here whole o s q a h = plain Pre (plus c) o s q a h
    stretch_from b e eps Pre here whole o s q a h = plain Pre eps o s q a h
    stretch_from b e (seq F G) Pre here whole o s q a h =
        let A =
        stretch_from b (e && empty G) F Pre here
        (λ l x y z. whole (and_l e (empty G) l) x y (z.0, z.1, (y, z.2, empty_matches G (and_r e (empty G) l) y))) o s h.0 a
        h.1 in
        let C =
        stretch_from (b && empty F) e G (After Pre F)
        (λ l y. (y, here (and_l b (empty F) l) y, empty_matches F (and_r b (empty F) l) y))
        (λ l x y z. whole l x y (z.1.0, z.1.1, (z.0, z.1.2, z.2))) o h.0 q A h.2 in
        (C.0, C.1, (C.2.1.0, C.2.1.1, (C.2.0, C.2.1.2, C.2.2)))
    stretch_from b e (alt F G) Pre here whole o s q a (inl h) =
        let A = stretch_from b e F Pre here (λ l x y z. whole l x y (z.0, z.1, inl z.2)) o s q a h in
        (A.0, A.1, (A.2.0, A.2.1, inl A.2.2))
    stretch_from b e (alt F G) Pre here whole o s q a (inr h) =
        let A = stretch_from b e G Pre here (λ l x y z. whole l x y (z.0, z.1, inr z.2)) o s q a h in
        (A.0, A.1, (A.2.0, A.2.1, inr A.2.2))
    stretch_from b e (opt F) Pre here whole o s q a (inl h) = plain Pre (opt F) o s q a (inl h)
    stretch_from b e (opt F) Pre here whole o s q a (inr h) =
        let A = stretch_from b e F Pre here (λ l x y z. whole l x y (z.0, z.1, inr z.2)) o s q a h in
        (A.0, A.1, (A.2.0, A.2.1, inr A.2.2))
    stretch_from b e (star F) Pre here whole o s q a h = plain Pre (star F) o s q a h
    stretch_from b e head Pre here whole o s q a h = plain Pre head o s q a h
    stretch_from b e tail Pre here whole o s q a h = plain Pre tail o s q a h

  -- one match of the stretched part is some of the part
  one_from : (F : Pattern) (s q : ℕ) → Matches t (stretch true true F) s q → Steps (Matches t F) q s
  one_from F s q h =
      let A =
      stretch_from F true true F (λ x y. x ≡ y) (λ l y. refl)
      (λ l x y z. subst (λ u. Matches t F u y) (sym z.1) z.2) s s q (s, stop refl, refl) h in
      steps_join A.1 (steps_one (subst (λ u. Matches t F u q) (sym A.2.1) A.2.2))

  pub steps_from : (F : Pattern) {p s : ℕ} → Steps (Matches t (stretch true true F)) p s → Steps (Matches t F) p s
  steps_from F (stop e) = stop e
  steps_from F (more {s} q h r) = steps_join (one_from F s q h) (steps_from F r)
