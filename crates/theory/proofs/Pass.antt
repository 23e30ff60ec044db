-- One pass over a form: its marks, carries and registers say nothing false, and, where it changes no register, leave nothing out.
-- Assumes nothing.
use mathlib.Core.Path.{◌≡◌, refl, sym, subst, ap, ◌∙◌}
use mathlib.Core.Bool.{Bool, false}
use mathlib.Core.Logic.{inl, inr}
use Prim.Native.Nat.{ℕ, zero, suc, ◌<◌, ◌≤◌}
use native.Mathlib.Omega.{arith}
use native.Mathlib.Decide.{dec_lt}
use lib.Dec.{T}
use Rattle.theory.specs.Pattern.{Pattern, Streams, leaf, many, plus, eps, seq, alt, opt, star, head, tail, Steps, stop, more, Takes, Matches}
use Rattle.theory.specs.Block.{Carry, Cont, Reach, Ops, Regs, out, carry, regs, blank, after}
use Rattle.theory.proofs.Reaching.{matches_le, steps_le, reach_seq, reach_left, reach_right, reach_opt, reach_on, reach_again, reach_more}
use Rattle.form.proofs.Bits.{or_cases, or_l, or_r}
use Rattle.theory.proofs.Laws.{Laws}

module _ (t : Streams) (a b : ℕ) (Row : Type 0) (o : Ops Row) (H : Row → ℕ → Type 0) (L : Laws t a b Row o H) where
  -- every register has only places that its star reaches from M
  abbrev pub Sound : (F : Pattern) → Carry F → Regs Row F → (ℕ → Type 0) → Type 0
  Sound (leaf C) k r M = Unit {0}
  Sound (many C) k r M = Unit {0}
  Sound (plus C) k r M = Unit {0}
  Sound eps k r M = Unit {0}
  Sound (seq F G) k r M = Sound F k.0 r.0 M × Sound G k.1 r.1 (Reach t a F k.0 M)
  Sound (alt F G) k r M = Sound F k.0 r.0 M × Sound G k.1 r.1 M
  Sound (opt F) k r M = Sound F k r M
  Sound (star F) k r M = ((p : ℕ) → H r.0 p → Reach t a (star F) k M p) × Sound F k r.1 (Reach t a (star F) k M)
  Sound head k r M = Unit {0}
  Sound tail k r M = Unit {0}

  -- what enters a star's body
  enter : (F : Pattern) (k : Carry F) (r : Regs Row (star F)) (m : Row) (M : ℕ → Type 0)
      → Sound (star F) k r M → ((p : ℕ) → H m p → M p) → (p : ℕ) → H (o.both r.0 m) p → Reach t a (star F) k M p
  enter F k r m M S h p x =
      elim (L.both_from r.0 m p x) [ inl y ↦ S.0 p y | inr y ↦ inl (p, h p y, stop refl) ]

  -- steps that begin with one, from what a step and then any number show
  plus_from : (C : ℕ) (k : Bool) (m : Row) (M : ℕ → Type 0) → ((p : ℕ) → H m p → M p) → (p : ℕ)
      → Reach t a (many C) false (H (o.step C k m)) p → Reach t a (plus C) k M p
  plus_from C k m M h p (inl x) =
      elim (L.step_from C k m x.0 x.1) [
        | inl y ↦ inl (y.0, h y.0 y.1, (x.0, y.2, x.2))
        | inr c ↦ inr (x.0, c, x.2)
      ]
  plus_from C k m M h p (inr c) = absurd c.1.1

  -- the place behind the first step
  plus_first : (C : ℕ) (k : Bool) (m : Row) (p : ℕ) → Reach t a (plus C) k (H m) p
      → (q : ℕ) × Reach t a (leaf C) k (H m) q × Steps (Takes t C) p q
  plus_first C k m p (inl h) = (h.2.0, inl (h.0, h.1, h.2.1), h.2.2)
  plus_first C k m p (inr c) = (c.0, inr c.1, c.2)

  pub sound_out : (F : Pattern) (k : Carry F) (r : Regs Row F) (m : Row) (M : ℕ → Type 0)
      → Sound F k r M → ((p : ℕ) → H m p → M p) → (p : ℕ) → H (out o F k r m) p → Reach t a F k M p
  sound_out (leaf C) k r m M S h p x =
      elim (L.step_from C k m p x) [ inl y ↦ inl (y.0, h y.0 y.1, y.2) | inr c ↦ inr c ]
  sound_out (many C) k r m M S h p x = reach_more t a (many C) k (H m) M h p (L.run_from C k m p x)
  sound_out (plus C) k r m M S h p x = plus_from C k m M h p (L.run_from C false (o.step C k m) p x)
  sound_out eps k r m M S h p x = inl (p, h p x, refl)
  sound_out (seq F G) k r m M S h p x =
      reach_seq t a F G k M p
      (sound_out G k.1 r.1 (out o F k.0 r.0 m) (Reach t a F k.0 M) S.1 (sound_out F k.0 r.0 m M S.0 h) p x)
  sound_out (alt F G) k r m M S h p x =
      elim (L.both_from (out o F k.0 r.0 m) (out o G k.1 r.1 m) p x) [
        | inl y ↦ reach_left t a F G k M p (sound_out F k.0 r.0 m M S.0 h p y)
        | inr y ↦ reach_right t a F G k M p (sound_out G k.1 r.1 m M S.1 h p y)
      ]
  sound_out (opt F) k r m M S h p x =
      elim (L.both_from m (out o F k r m) p x)
      [ inl y ↦ inl (p, h p y, inl refl) | inr y ↦ reach_opt t a F k M p (sound_out F k r m M S h p y) ]
  sound_out (star F) k r m M S h p x =
      elim (L.both_from (o.both r.0 m) (out o F k r.1 (o.both r.0 m)) p x) [
        | inl y ↦ enter F k r m M S h p y
        | inr y ↦ reach_again t a F k M p (sound_out F k r.1 (o.both r.0 m) (Reach t a (star F) k M) S.1 (enter F k r m M S h) p y)
      ]
  sound_out head k r m M S h p x = let y = L.heads_from m p x in inl (p, h p y.0, (refl, y.1))
  sound_out tail k r m M S h p x = let y = L.tails_from m p x in inl (p, h p y.0, (refl, y.1))

  pub sound_regs : (F : Pattern) (k : Carry F) (r : Regs Row F) (m : Row) (M : ℕ → Type 0)
      → Sound F k r M → ((p : ℕ) → H m p → M p) → Sound F k (regs o F k r m) M
  sound_regs (leaf C) k r m M S h = tt
  sound_regs (many C) k r m M S h = tt
  sound_regs (plus C) k r m M S h = tt
  sound_regs eps k r m M S h = tt
  sound_regs (seq F G) k r m M S h = (
    sound_regs F k.0 r.0 m M S.0 h,
    sound_regs G k.1 r.1 (out o F k.0 r.0 m) (Reach t a F k.0 M) S.1 (sound_out F k.0 r.0 m M S.0 h),
  )
  sound_regs (alt F G) k r m M S h = (sound_regs F k.0 r.0 m M S.0 h, sound_regs G k.1 r.1 m M S.1 h)
  sound_regs (opt F) k r m M S h = sound_regs F k r m M S h
  sound_regs (star F) k r m M S h = (
    sound_out (star F) k r m M S h,
    sound_regs F k r.1 (o.both r.0 m) (Reach t a (star F) k M) S.1 (enter F k r m M S h),
  )
  sound_regs head k r m M S h = tt
  sound_regs tail k r m M S h = tt

  pub sound_carry : (F : Pattern) (k : Carry F) (r : Regs Row F) (m : Row) (M : ℕ → Type 0)
      → Sound F k r M → ((p : ℕ) → H m p → M p) → (p : ℕ) → Cont t b F (carry o F k r m) p → Reach t a F k M p
  sound_carry (leaf C) k r m M S h p c =
      let y = L.fall_from C m c.1 in inl (y.0, h y.0 y.1, (c.0 ∙ y.2.0, y.2.1))
  sound_carry (many C) k r m M S h p c = reach_more t a (many C) k (H m) M h p (L.run_fall_from C k m p c)
  sound_carry (plus C) k r m M S h p c =
      elim (or_cases (o.fall C m) (o.run_fall C false (o.step C k m)) c.1.1) [
        | inl x ↦ let y = L.fall_from C m x in inl (y.0, h y.0 y.1, (c.0, (c.1.0 ∙ y.2.0, y.2.1), c.2))
        | inr x ↦ plus_from C k m M h p (L.run_fall_from C false (o.step C k m) p (c.0, (c.1.0, x), c.2))
      ]
  sound_carry eps k r m M S h p c = absurd c
  sound_carry (seq F G) k r m M S h p (inl c) =
      reach_seq t a F G k M p (inl (c.0, sound_carry F k.0 r.0 m M S.0 h c.0 c.1, c.2))
  sound_carry (seq F G) k r m M S h p (inr c) =
      reach_seq t a F G k M p
      (sound_carry G k.1 r.1 (out o F k.0 r.0 m) (Reach t a F k.0 M) S.1 (sound_out F k.0 r.0 m M S.0 h) p c)
  sound_carry (alt F G) k r m M S h p (inl c) = reach_left t a F G k M p (sound_carry F k.0 r.0 m M S.0 h p c)
  sound_carry (alt F G) k r m M S h p (inr c) = reach_right t a F G k M p (sound_carry G k.1 r.1 m M S.1 h p c)
  sound_carry (opt F) k r m M S h p c = reach_opt t a F k M p (sound_carry F k r m M S h p c)
  sound_carry (star F) k r m M S h p c =
      reach_on t a F k M c.0 p
      (reach_again t a F k M c.0
      (sound_carry F k r.1 (o.both r.0 m) (Reach t a (star F) k M) S.1 (enter F k r m M S h) c.0 c.1))
      c.2
  sound_carry head k r m M S h p c = absurd c
  sound_carry tail k r m M S h p c = absurd c

  pub sound_blank : (e : Row) → ((p : ℕ) → H e p → ⊥) → (F : Pattern) (k : Carry F) (M : ℕ → Type 0) → Sound F k (blank e F) M
  sound_blank e h (leaf C) k M = tt
  sound_blank e h (many C) k M = tt
  sound_blank e h (plus C) k M = tt
  sound_blank e h eps k M = tt
  sound_blank e h (seq F G) k M = (sound_blank e h F k.0 M, sound_blank e h G k.1 (Reach t a F k.0 M))
  sound_blank e h (alt F G) k M = (sound_blank e h F k.0 M, sound_blank e h G k.1 M)
  sound_blank e h (opt F) k M = sound_blank e h F k M
  sound_blank e h (star F) k M = (λ p x. absurd (h p x), sound_blank e h F k (Reach t a (star F) k M))
  sound_blank e h head k M = tt
  sound_blank e h tail k M = tt

  pub sound_after : (e : Row) → ((p : ℕ) → H e p → ⊥) → (F : Pattern) (k : Carry F) (m : Row) (n : ℕ) → Sound F k (after o e F k m n) (H m)
  sound_after e h F k m zero = sound_blank e h F k (H m)
  sound_after e h F k m (suc n) = sound_regs F k (after o e F k m n) m (H m) (sound_after e h F k m n) (λ p x. x)

  -- a pass that adds to no register
  abbrev pub Still : (F : Pattern) → Carry F → Regs Row F → Row → Type 0
  Still (leaf C) k r m = Unit {0}
  Still (many C) k r m = Unit {0}
  Still (plus C) k r m = Unit {0}
  Still eps k r m = Unit {0}
  Still (seq F G) k r m = Still F k.0 r.0 m × Still G k.1 r.1 (out o F k.0 r.0 m)
  Still (alt F G) k r m = Still F k.0 r.0 m × Still G k.1 r.1 m
  Still (opt F) k r m = Still F k r m
  Still (star F) k r m = ((p : ℕ) → H (out o (star F) k r m) p → H r.0 p) × Still F k r.1 (o.both r.0 m)
  Still head k r m = Unit {0}
  Still tail k r m = Unit {0}

  pub still : (F : Pattern) (k : Carry F) (r : Regs Row F) (m : Row) → regs o F k r m ≡ r → Still F k r m
  still (leaf C) k r m e = tt
  still (many C) k r m e = tt
  still (plus C) k r m e = tt
  still eps k r m e = tt
  still (seq F G) k r m e =
      (still F k.0 r.0 m (ap (λ x. x.0) e), still G k.1 r.1 (out o F k.0 r.0 m) (ap (λ x. x.1) e))
  still (alt F G) k r m e = (still F k.0 r.0 m (ap (λ x. x.0) e), still G k.1 r.1 m (ap (λ x. x.1) e))
  still (opt F) k r m e = still F k r m e
  still (star F) k r m e =
      (λ p x. subst (λ y. H y p) (ap (λ y. y.0) e) x, still F k r.1 (o.both r.0 m) (ap (λ x. x.1) e))
  still head k r m e = tt
  still tail k r m e = tt

  -- A star's register, of which a pass adds to no more than it has, holds all that its body reaches from it.
  grown : (F : Pattern) (k : Carry F) (r : Regs Row (star F)) (m : Row)
      → Still (star F) k r m → (p : ℕ) → H (out o F k r.1 (o.both r.0 m)) p → H r.0 p
  grown F k r m S p x = S.0 p (L.both_right (o.both r.0 m) (out o F k r.1 (o.both r.0 m)) p x)

  taken : (F : Pattern) (k : Carry F) (r : Regs Row (star F)) (m : Row)
      → Still (star F) k r m → (p : ℕ) → H m p → H r.0 p
  taken F k r m S p x =
      S.0 p (L.both_left (o.both r.0 m) (out o F k r.1 (o.both r.0 m)) p (L.both_right r.0 m p x))

  -- the body's half of the theorem, as a hypothesis
  abbrev Full : (F : Pattern) → Carry F → Regs Row F → Row → Type 0
  Full F k r m = (p : ℕ) → p < b → Reach t a F k (H m) p → H (out o F k r m) p

  abbrev Left : (F : Pattern) → Carry F → Regs Row F → Row → Type 0
  Left F k r m = (p : ℕ) → b ≤ p → Reach t a F k (H m) p → Cont t b F (carry o F k r m) p

  walk : (F : Pattern) (k : Carry F) (r : Regs Row (star F)) (m : Row)
      → Still (star F) k r m
      → Full F k r.1 (o.both r.0 m)
      → (p : ℕ) → p < b → {s : ℕ} → Steps (Matches t F) p s → H r.0 s → H r.0 p
  walk F k r m S full p l (stop e) x = subst (λ y. H r.0 y) e x
  walk F k r m S full p l (more {s} q h rest) x =
      let q<b : q < b = omega (arith, steps_le (Matches t F) (matches_le t F) rest) in
      walk F k r m S full p l rest (grown F k r m S q (full q q<b (inl (s, L.both_left r.0 m s x, h))))

  leave : (F : Pattern) (k : Carry F) (r : Regs Row (star F)) (m : Row)
      → Still (star F) k r m
      → Full F k r.1 (o.both r.0 m)
      → Left F k r.1 (o.both r.0 m)
      → (p : ℕ) → b ≤ p → {s : ℕ} → Steps (Matches t F) p s → H r.0 s → Cont t b (star F) (carry o (star F) k r m) p
  leave F k r m S full left p l (stop {s} e) x = absurd (omega (arith, L.high r.0 s x))
  leave F k r m S full left p l (more {s} q h rest) x =
      elim (dec_lt q b) [
        | yes q<b ↦ leave F k r m S full left p l rest (grown F k r m S q (full q q<b (inl (s, L.both_left r.0 m s x, h))))
        | no far ↦ (q, left q (omega arith) (inl (s, L.both_left r.0 m s x, h)), rest)
      ]

  pub full_out : (F : Pattern) (k : Carry F) (r : Regs Row F) (m : Row) → Still F k r m → Full F k r m
  full_out (leaf C) k r m S p l h = L.step_to C k m p l h
  full_out (many C) k r m S p l h = L.run_to C k m p l h
  full_out (plus C) k r m S p l h =
      let y = plus_first C k m p h in
      let u : y.0 < b = omega (arith, steps_le (Takes t C) (λ x z g. omega arith) y.2) in
      L.run_to C false (o.step C k m) p l (inl (y.0, L.step_to C k m y.0 u y.1, y.2))
  full_out eps k r m S p l (inl h) = subst (λ y. H m y) h.2 h.1
  full_out eps k r m S p l (inr c) = absurd c
  full_out (seq F G) k r m S p l (inl h) =
      let q<b : h.2.0 < b = omega (arith, matches_le t G h.2.0 p h.2.2) in
      full_out G k.1 r.1 (out o F k.0 r.0 m) S.1 p l
      (inl (h.2.0, full_out F k.0 r.0 m S.0 h.2.0 q<b (inl (h.0, h.1, h.2.1)), h.2.2))
  full_out (seq F G) k r m S p l (inr (inl c)) =
      let q<b : c.0 < b = omega (arith, matches_le t G c.0 p c.2) in
      full_out G k.1 r.1 (out o F k.0 r.0 m) S.1 p l
      (inl (c.0, full_out F k.0 r.0 m S.0 c.0 q<b (inr c.1), c.2))
  full_out (seq F G) k r m S p l (inr (inr c)) = full_out G k.1 r.1 (out o F k.0 r.0 m) S.1 p l (inr c)
  full_out (alt F G) k r m S p l h =
      let left : Reach t a F k.0 (H m) p → H (out o (alt F G) k r m) p =
      λ x. L.both_left (out o F k.0 r.0 m) (out o G k.1 r.1 m) p (full_out F k.0 r.0 m S.0 p l x) in
      let right : Reach t a G k.1 (H m) p → H (out o (alt F G) k r m) p =
      λ x. L.both_right (out o F k.0 r.0 m) (out o G k.1 r.1 m) p (full_out G k.1 r.1 m S.1 p l x) in
      elim h [
        | inl x ↦ elim x.2 [ inl y ↦ left (inl (x.0, x.1, y)) | inr y ↦ right (inl (x.0, x.1, y)) ]
        | inr c ↦ elim c [ inl y ↦ left (inr y) | inr y ↦ right (inr y) ]
      ]
  full_out (opt F) k r m S p l (inl h) =
      elim h.2 [
        | inl e ↦ L.both_left m (out o F k r m) p (subst (λ y. H m y) e h.1)
        | inr x ↦ L.both_right m (out o F k r m) p (full_out F k r m S p l (inl (h.0, h.1, x)))
      ]
  full_out (opt F) k r m S p l (inr c) = L.both_right m (out o F k r m) p (full_out F k r m S p l (inr c))
  full_out (star F) k r m S p l h =
      let full : Full F k r.1 (o.both r.0 m) = full_out F k r.1 (o.both r.0 m) S.1 in
      let kept : H r.0 p → H (out o (star F) k r m) p =
      λ x. L.both_left (o.both r.0 m) (out o F k r.1 (o.both r.0 m)) p (L.both_left r.0 m p x) in
      elim h [
        | inl x ↦ kept (walk F k r m S full p l x.2 (taken F k r m S x.0 x.1))
        | inr c ↦
            let q<b : c.0 < b = omega (arith, matches_le t (star F) c.0 p c.2) in
            kept (walk F k r m S full p l c.2 (grown F k r m S c.0 (full c.0 q<b (inr c.1))))
      ]
  full_out head k r m S p l (inl h) =
      subst (λ y. H (o.heads m) y) h.2.0 (L.heads_to m h.0 h.1 h.2.1)
  full_out head k r m S p l (inr c) = absurd c
  full_out tail k r m S p l (inl h) =
      subst (λ y. H (o.tails m) y) h.2.0 (L.tails_to m h.0 h.1 h.2.1)
  full_out tail k r m S p l (inr c) = absurd c

  -- what a leaf takes behind the block is its last byte
  leaf_left : (C : ℕ) (k : Bool) (m : Row) (p : ℕ) → b ≤ p → Reach t a (leaf C) k (H m) p → (p ≡ b) × T (o.fall C m)
  leaf_left C k m p l (inl h) =
      let p≡b : p ≡ b = omega (arith, L.high m h.0 h.1) in
      (p≡b, L.fall_to C m h.0 h.1 (sym p≡b ∙ h.2.0, h.2.1))
  leaf_left C k m p l (inr c) = absurd (omega (arith, L.wide))

  pub full_carry : (F : Pattern) (k : Carry F) (r : Regs Row F) (m : Row) → Still F k r m → Left F k r m
  full_carry (leaf C) k r m S p l h = leaf_left C k m p l h
  full_carry (many C) k r m S p l h = L.run_fall_to C k m p l h
  full_carry (plus C) k r m S p l h =
      let y = plus_first C k m p h in
      elim (dec_lt y.0 b) [
        | yes u ↦
            let z = L.run_fall_to C false (o.step C k m) p l (inl (y.0, L.step_to C k m y.0 u y.1, y.2)) in
            (z.0, (z.1.0, or_r (o.fall C m) (o.run_fall C false (o.step C k m)) z.1.1), z.2)
        | no u ↦
            let z = leaf_left C k m y.0 (omega arith) y.1 in
            (y.0, (z.0, or_l (o.fall C m) (o.run_fall C false (o.step C k m)) z.1), y.2)
      ]
  full_carry eps k r m S p l (inl h) = absurd (omega (arith, L.high m h.0 h.1))
  full_carry eps k r m S p l (inr c) = absurd c
  full_carry (seq F G) k r m S p l (inl h) =
      elim (dec_lt h.2.0 b) [
        | yes q<b ↦
            inr (full_carry G k.1 r.1 (out o F k.0 r.0 m) S.1 p l
            (inl (h.2.0, full_out F k.0 r.0 m S.0 h.2.0 q<b (inl (h.0, h.1, h.2.1)), h.2.2)))
        | no far ↦
            inl (h.2.0, full_carry F k.0 r.0 m S.0 h.2.0 (omega arith) (inl (h.0, h.1, h.2.1)), h.2.2)
      ]
  full_carry (seq F G) k r m S p l (inr (inl c)) =
      elim (dec_lt c.0 b) [
        | yes q<b ↦
            inr (full_carry G k.1 r.1 (out o F k.0 r.0 m) S.1 p l
            (inl (c.0, full_out F k.0 r.0 m S.0 c.0 q<b (inr c.1), c.2)))
        | no far ↦ inl (c.0, full_carry F k.0 r.0 m S.0 c.0 (omega arith) (inr c.1), c.2)
      ]
  full_carry (seq F G) k r m S p l (inr (inr c)) = inr (full_carry G k.1 r.1 (out o F k.0 r.0 m) S.1 p l (inr c))
  full_carry (alt F G) k r m S p l h =
      let left : Reach t a F k.0 (H m) p → Cont t b (alt F G) (carry o (alt F G) k r m) p =
      λ x. inl (full_carry F k.0 r.0 m S.0 p l x) in
      let right : Reach t a G k.1 (H m) p → Cont t b (alt F G) (carry o (alt F G) k r m) p =
      λ x. inr (full_carry G k.1 r.1 m S.1 p l x) in
      elim h [
        | inl x ↦ elim x.2 [ inl y ↦ left (inl (x.0, x.1, y)) | inr y ↦ right (inl (x.0, x.1, y)) ]
        | inr c ↦ elim c [ inl y ↦ left (inr y) | inr y ↦ right (inr y) ]
      ]
  full_carry (opt F) k r m S p l (inl h) =
      elim h.2 [
        | inl e ↦ absurd (omega (arith, L.high m h.0 h.1))
        | inr x ↦ full_carry F k r m S p l (inl (h.0, h.1, x))
      ]
  full_carry (opt F) k r m S p l (inr c) = full_carry F k r m S p l (inr c)
  full_carry (star F) k r m S p l h =
      let full : Full F k r.1 (o.both r.0 m) = full_out F k r.1 (o.both r.0 m) S.1 in
      let left : Left F k r.1 (o.both r.0 m) = full_carry F k r.1 (o.both r.0 m) S.1 in
      elim h [
        | inl x ↦ leave F k r m S full left p l x.2 (taken F k r m S x.0 x.1)
        | inr c ↦
            elim (dec_lt c.0 b) [
              | yes q<b ↦ leave F k r m S full left p l c.2 (grown F k r m S c.0 (full c.0 q<b (inr c.1)))
              | no far ↦ (c.0, left c.0 (omega arith) (inr c.1), c.2)
            ]
      ]
  full_carry head k r m S p l (inl h) = absurd (omega (arith, L.high m h.0 h.1))
  full_carry head k r m S p l (inr c) = absurd c
  full_carry tail k r m S p l (inl h) = absurd (omega (arith, L.high m h.0 h.1))
  full_carry tail k r m S p l (inr c) = absurd c
