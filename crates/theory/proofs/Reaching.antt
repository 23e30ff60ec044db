-- How `Reach` goes through the forms, and that a match goes forwards. Assumes nothing.
use mathlib.Core.Path.{refl, sym, subst}
use mathlib.Core.Logic.{inl, inr}
use Prim.Native.Nat.{ℕ, ◌≤◌}
use native.Mathlib.Omega.{arith}
use Rattle.theory.specs.Pattern.{Pattern, Streams, leaf, many, plus, eps, seq, alt, opt, star, head, tail, Steps, stop, more, Takes, Matches}
use Rattle.theory.specs.Block.{Carry, Reach}

-- steps join
pub steps_join : {R : ℕ → ℕ → Type 0} {p q s : ℕ} → Steps R q s → Steps R p q → Steps R p s
steps_join {R} {p} {q} {s} (stop e) y = subst (λ x. Steps R p x) (sym e) y
steps_join (more x h r) y = more x h (steps_join r y)

pub steps_one : {R : ℕ → ℕ → Type 0} {s p : ℕ} → R s p → Steps R p s
steps_one {R} {s} {p} h = more p h (stop refl)

-- steps go forwards if each does
pub steps_le : (R : ℕ → ℕ → Type 0) → ((s p : ℕ) → R s p → s ≤ p) → {p s : ℕ} → Steps R p s → s ≤ p
steps_le R le (stop e) = omega arith
steps_le R le (more {s} q h r) = let one : s ≤ q = le s q h in let rest = steps_le R le r in omega arith

module _ (t : Streams) where
  pub matches_le : (F : Pattern) (s p : ℕ) → Matches t F s p → s ≤ p
  matches_le (leaf C) s p h = omega arith
  matches_le (many C) s p h = steps_le (Takes t C) (λ x y l. omega arith) h
  matches_le (plus C) s p h = omega (arith, steps_le (Takes t C) (λ x y l. omega arith) h.2)
  matches_le eps s p h = omega arith
  matches_le (seq F G) s p h = omega (arith, matches_le F s h.0 h.1, matches_le G h.0 p h.2)
  matches_le (alt F G) s p (inl h) = matches_le F s p h
  matches_le (alt F G) s p (inr h) = matches_le G s p h
  matches_le (opt F) s p (inl h) = omega arith
  matches_le (opt F) s p (inr h) = matches_le F s p h
  matches_le (star F) s p h = steps_le (Matches t F) (matches_le F) h
  matches_le head s p h = omega arith
  matches_le tail s p h = omega arith

  module _ (a : ℕ) where
    pub reach_seq : (F G : Pattern) (k : Carry (seq F G)) (M : ℕ → Type 0) (p : ℕ)
        → Reach t a G k.1 (Reach t a F k.0 M) p → Reach t a (seq F G) k M p
    reach_seq F G k M p (inl h) =
        elim h.1 [ inl x ↦ inl (x.0, x.1, (h.0, x.2, h.2)) | inr c ↦ inr (inl (h.0, c, h.2)) ]
    reach_seq F G k M p (inr c) = inr (inr c)

    pub reach_left : (F G : Pattern) (k : Carry (alt F G)) (M : ℕ → Type 0) (p : ℕ)
        → Reach t a F k.0 M p → Reach t a (alt F G) k M p
    reach_left F G k M p (inl h) = inl (h.0, h.1, inl h.2)
    reach_left F G k M p (inr c) = inr (inl c)

    pub reach_right : (F G : Pattern) (k : Carry (alt F G)) (M : ℕ → Type 0) (p : ℕ)
        → Reach t a G k.1 M p → Reach t a (alt F G) k M p
    reach_right F G k M p (inl h) = inl (h.0, h.1, inr h.2)
    reach_right F G k M p (inr c) = inr (inr c)

    pub reach_opt : (F : Pattern) (k : Carry F) (M : ℕ → Type 0) (p : ℕ) → Reach t a F k M p → Reach t a (opt F) k M p
    reach_opt F k M p (inl h) = inl (h.0, h.1, inr h.2)
    reach_opt F k M p (inr c) = inr c

    pub reach_on : (F : Pattern) (k : Carry F) (M : ℕ → Type 0) (q p : ℕ)
        → Reach t a (star F) k M q → Steps (Matches t F) p q → Reach t a (star F) k M p
    reach_on F k M q p (inl h) r = inl (h.0, h.1, steps_join h.2 r)
    reach_on F k M q p (inr c) r = inr (c.0, c.1, steps_join c.2 r)

    pub reach_again : (F : Pattern) (k : Carry F) (M : ℕ → Type 0) (p : ℕ)
        → Reach t a F k (Reach t a (star F) k M) p → Reach t a (star F) k M p
    reach_again F k M p (inl h) = reach_on F k M h.0 p h.1 (steps_one h.2)
    reach_again F k M p (inr c) = inr (p, c, stop refl)

    -- more marks reach more
    pub reach_more : (F : Pattern) (k : Carry F) (M N : ℕ → Type 0) → ((p : ℕ) → M p → N p) → (p : ℕ) → Reach t a F k M p → Reach t a F k N p
    reach_more F k M N h p (inl x) = inl (x.0, h x.0 x.1, x.2)
    reach_more F k M N h p (inr c) = inr c
