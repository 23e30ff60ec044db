-- The pairs of a form that begin at s, listed by their ends: so it can be told whether (s, p) is one. Assumes nothing.
use Rattle.std.proofs.Common.{◌≡◌, ℕ, zero, suc, ◌+◌, ◌-◌, ◌≤◌, Bool, true, false, ◌&&◌, T, eqb, ltb, leb, List, [], ◌∷◌, ◌++◌, length, get_or, take, drop, sym, refl, ap, subst, inl, inr, arith, le→leb, eqb→eq, ltb→lt, lt→ltb, leb→le, length-drop, length-take}
use native.Mathlib.Decide.{dec_lt}
use lib.Dec.{eqb_refl}
use Rattle.form.specs.Form.{Form, Forms, quote, set, out, seq, or, star, rep, start, end, nil, cons}
use Rattle.form.specs.Meaning.{inside, outside, One, Spelled, Joins, Pairs, Joined, Either}
use Rattle.form.specs.Lines.{Has}
use Rattle.form.proofs.Bits.{and_i, and_l, and_r, eqb_to}
use Rattle.form.proofs.Inside.{pairs_inside}
use Rattle.form.proofs.Members.{has_left, has_right, has_cases, each, each_from, each_to, keep, keep_from, keep_to, down_from, down_to, down_from_lem}

-- two lists of bytes are equal
abbrev same : List ℕ → List ℕ → Bool
same [] [] = true
same [] (y ∷ ys) = false
same (x ∷ xs) [] = false
same (x ∷ xs) (y ∷ ys) = eqb x y && same xs ys

same_from : (xs ys : List ℕ) → T (same xs ys) → xs ≡ ys
same_from [] [] t = refl
same_from [] (y ∷ ys) t = absurd t
same_from (x ∷ xs) [] t = absurd t
same_from (x ∷ xs) (y ∷ ys) t =
    λ i. eqb→eq x y (and_l (eqb x y) (same xs ys) t) i ∷ same_from xs ys (and_r (eqb x y) (same xs ys) t) i

same_to : (xs : List ℕ) → T (same xs xs)
same_to [] = tt
same_to (x ∷ xs) = and_i (eqb x x) (same xs xs) (eqb_refl x) (same_to xs)

abbrev spelling : List ℕ → List ℕ → ℕ → List ℕ
spelling line bytes s =
    keep (leb (s + length bytes) (length line)) (keep (same (take (length bytes) (drop s line)) bytes) ((s + length bytes) ∷ []))

abbrev taking : List ℕ → (ℕ → Bool) → ℕ → List ℕ
taking line class s = keep (ltb s (length line)) (keep (class (get_or line s 0)) (suc s ∷ []))

abbrev joining : (ℕ → List ℕ) → ℕ → ℕ → List ℕ
joining f zero s = s ∷ []
joining f (suc k) s = each (joining f k) (f s)

abbrev mutual
  pub nexts : List ℕ → Form → ℕ → List ℕ
  nexts line (quote bytes) s = spelling line bytes s
  nexts line (set items) s = taking line (inside items) s
  nexts line (out items) s = taking line (outside items) s
  nexts line (seq parts) s = through line parts s
  nexts line (or parts) s = any line parts s
  nexts line (star part) s =
      keep (leb s (length line)) (each (λ k. joining (nexts line part) k s) (down_from (length line)))
  nexts line (rep least most part) s =
      keep (leb s (length line)) (each (λ k. keep (leb least k) (joining (nexts line part) k s)) (down_from most))
  nexts line start s = keep (eqb s 0) (0 ∷ [])
  nexts line end s = keep (eqb s (length line)) (length line ∷ [])

  through : List ℕ → Forms → ℕ → List ℕ
  through line nil s = keep (leb s (length line)) (s ∷ [])
  through line (cons part parts) s = each (through line parts) (nexts line part s)

  any : List ℕ → Forms → ℕ → List ℕ
  any line nil s = []
  any line (cons part parts) s = nexts line part s ++ any line parts s

only : {A : Type 0} (x y : A) → Has x (y ∷ []) → x ≡ y
only x y (inl e) = e
only x y (inr h) = absurd h

spelling_from : (line bytes : List ℕ) (s p : ℕ) → Has p (spelling line bytes s) → Spelled line bytes s p
spelling_from line bytes s p h =
    let a = keep_from p (leb (s + length bytes) (length line)) _ h in
    let b = keep_from p (same (take (length bytes) (drop s line)) bytes) _ a.1 in
    let e : p ≡ s + length bytes = only p (s + length bytes) b.1 in
    let l : s + length bytes ≤ length line = leb→le (s + length bytes) (length line) a.0 in
    let d : length bytes ≡ p - s = omega arith in
    (omega arith, omega arith, subst (λ x. take x (drop s line) ≡ bytes) d (same_from _ bytes b.0))

spelling_to : (line bytes : List ℕ) (s p : ℕ) → Spelled line bytes s p → Has p (spelling line bytes s)
spelling_to line bytes s p h =
    let n : length (take (p - s) (drop s line)) ≡ length bytes = ap length h.2 in
    let d : length bytes ≡ p - s = omega (arith, length-take (p - s) (drop s line), length-drop s line) in
    let e : p ≡ s + length bytes = omega arith in
    keep_to p (leb (s + length bytes) (length line)) _ (le→leb (s + length bytes) (length line) (omega arith))
    (keep_to p (same (take (length bytes) (drop s line)) bytes) _
    (subst (λ x. T (same x bytes)) (sym (subst (λ x. take x (drop s line) ≡ bytes) (sym d) h.2)) (same_to bytes)) (inl e))

taking_from : (line : List ℕ) (class : ℕ → Bool) (s p : ℕ) → Has p (taking line class s) → One line class s p
taking_from line class s p h =
    let a = keep_from p (ltb s (length line)) _ h in
    let b = keep_from p (class (get_or line s 0)) _ a.1 in
    (ltb→lt s (length line) a.0, only p (suc s) b.1, b.0)

taking_to : (line : List ℕ) (class : ℕ → Bool) (s p : ℕ) → One line class s p → Has p (taking line class s)
taking_to line class s p h =
    keep_to p (ltb s (length line)) _ (lt→ltb s (length line) h.0) (keep_to p (class (get_or line s 0)) _ h.2 (inl h.1))

joining_from : (R : ℕ → ℕ → Type 0) (f : ℕ → List ℕ) → ((s p : ℕ) → Has p (f s) → R s p)
    → (k s p : ℕ) → Has p (joining f k s) → Joins R k s p
joining_from R f one zero s p h = sym (only p s h)
joining_from R f one (suc k) s p h =
    let a = each_from (joining f k) p (f s) h in
    (a.0, one s a.0 a.1, joining_from R f one k a.0 p a.2)

joining_to : (R : ℕ → ℕ → Type 0) (f : ℕ → List ℕ) → ((s p : ℕ) → R s p → Has p (f s))
    → (k s p : ℕ) → Joins R k s p → Has p (joining f k s)
joining_to R f one zero s p h = inl (sym h)
joining_to R f one (suc k) s p h =
    each_to (joining f k) p h.0 (f s) (one s h.0 h.1) (joining_to R f one k h.0 p h.2)

-- of joins that go forwards those that stay can be left out: then there are no more than the columns between their ends
short : (R : ℕ → ℕ → Type 0) → ((s p : ℕ) → R s p → s ≤ p)
    → (k s p : ℕ) → Joins R k s p → (j : ℕ) × (s + j ≤ p) × Joins R j s p
short R le zero s p h = (0, omega arith, h)
short R le (suc k) s p h =
    let a = short R le k h.0 p h.2 in
    let l : s ≤ h.0 = le s h.0 h.1 in
    elim (dec_lt s h.0) [
      | yes m ↦ (suc a.0, omega arith, (h.0, h.1, a.2))
      | no m ↦ let e : h.0 ≡ s = omega arith in (a.0, omega arith, subst (λ x. Joins R a.0 x p) e a.2)
    ]

mutual
  pub nexts_from : (line : List ℕ) (F : Form) (s p : ℕ) → Has p (nexts line F s) → Pairs line F s p
  nexts_from line (quote bytes) s p h = spelling_from line bytes s p h
  nexts_from line (set items) s p h = taking_from line (inside items) s p h
  nexts_from line (out items) s p h = taking_from line (outside items) s p h
  nexts_from line (seq parts) s p h = through_from line parts s p h
  nexts_from line (or parts) s p h = any_from line parts s p h
  nexts_from line (star part) s p h =
      let a = keep_from p (leb s (length line)) _ h in
      let b = each_from (λ k. joining (nexts line part) k s) p (down_from (length line)) a.1 in (
        leb→le s (length line) a.0,
        (b.0, joining_from (Pairs line part) (nexts line part) (nexts_from line part) b.0 s p b.2),
      )
  nexts_from line (rep least most part) s p h =
      let a = keep_from p (leb s (length line)) _ h in
      let b = each_from (λ k. keep (leb least k) (joining (nexts line part) k s)) p (down_from most) a.1 in
      let c = keep_from p (leb least b.0) _ b.2 in (
        leb→le s (length line) a.0,
        (
          b.0,
          leb→le least b.0 c.0,
          down_from_lem most b.0 b.1,
          joining_from (Pairs line part) (nexts line part) (nexts_from line part) b.0 s p c.1,
        ),
      )
  nexts_from line start s p h =
      let a = keep_from p (eqb s 0) (0 ∷ []) h in (eqb→eq s 0 a.0, only p 0 a.1)
  nexts_from line end s p h =
      let a = keep_from p (eqb s (length line)) (length line ∷ []) h in (eqb→eq s (length line) a.0, only p (length line) a.1)

  through_from : (line : List ℕ) (parts : Forms) (s p : ℕ) → Has p (through line parts s) → Joined line parts s p
  through_from line nil s p h =
      let a = keep_from p (leb s (length line)) (s ∷ []) h in (leb→le s (length line) a.0, sym (only p s a.1))
  through_from line (cons part parts) s p h =
      let a = each_from (through line parts) p (nexts line part s) h in
      (a.0, nexts_from line part s a.0 a.1, through_from line parts a.0 p a.2)

  any_from : (line : List ℕ) (parts : Forms) (s p : ℕ) → Has p (any line parts s) → Either line parts s p
  any_from line nil s p h = absurd h
  any_from line (cons part parts) s p h =
      elim (has_cases p (nexts line part s) (any line parts s) h)
      [ inl a ↦ inl (nexts_from line part s p a) | inr b ↦ inr (any_from line parts s p b) ]

mutual
  pub nexts_to : (line : List ℕ) (F : Form) (s p : ℕ) → Pairs line F s p → Has p (nexts line F s)
  nexts_to line (quote bytes) s p h = spelling_to line bytes s p h
  nexts_to line (set items) s p h = taking_to line (inside items) s p h
  nexts_to line (out items) s p h = taking_to line (outside items) s p h
  nexts_to line (seq parts) s p h = through_to line parts s p h
  nexts_to line (or parts) s p h = any_to line parts s p h
  nexts_to line (star part) s p h =
      let a = short (Pairs line part) (λ x y r. (pairs_inside line part x y r).0) h.1.0 s p h.1.1 in
      let l : p ≤ length line = (pairs_inside line (star part) s p h).1 in
      keep_to p (leb s (length line)) _ (le→leb s (length line) h.0)
      (each_to (λ k. joining (nexts line part) k s) p a.0 (down_from (length line)) (down_to (length line) a.0 (omega arith))
      (joining_to (Pairs line part) (nexts line part) (nexts_to line part) a.0 s p a.2))
  nexts_to line (rep least most part) s p h =
      let k : ℕ = h.1.0 in
      keep_to p (leb s (length line)) _ (le→leb s (length line) h.0)
      (each_to (λ j. keep (leb least j) (joining (nexts line part) j s)) p k (down_from most) (down_to most k h.1.2)
      (keep_to p (leb least k) _ (le→leb least k h.1.1)
      (joining_to (Pairs line part) (nexts line part) (nexts_to line part) k s p h.1.3)))
  nexts_to line start s p h = keep_to p (eqb s 0) (0 ∷ []) (eqb_to s 0 h.0) (inl h.1)
  nexts_to line end s p h = keep_to p (eqb s (length line)) (length line ∷ []) (eqb_to s (length line) h.0) (inl h.1)

  through_to : (line : List ℕ) (parts : Forms) (s p : ℕ) → Joined line parts s p → Has p (through line parts s)
  through_to line nil s p h = keep_to p (leb s (length line)) (s ∷ []) (le→leb s (length line) h.0) (inl (sym h.1))
  through_to line (cons part parts) s p h =
      each_to (through line parts) p h.0 (nexts line part s) (nexts_to line part s h.0 h.1) (through_to line parts h.0 p h.2)

  any_to : (line : List ℕ) (parts : Forms) (s p : ℕ) → Either line parts s p → Has p (any line parts s)
  any_to line nil s p h = absurd h
  any_to line (cons part parts) s p (inl h) = has_left p (nexts line part s) (any line parts s) (nexts_to line part s p h)
  any_to line (cons part parts) s p (inr h) = has_right p (nexts line part s) (any line parts s) (any_to line parts s p h)
