-- The pairs of a form stand in the line and go forwards. Assumes nothing.
use Rattle.std.proofs.Common.{ℕ, zero, suc, ◌≤◌, List, length, inl, inr, arith}
use Rattle.form.specs.Form.{Form, Forms, quote, set, out, seq, or, star, rep, start, end, nil, cons}
use Rattle.form.specs.Meaning.{Joins, Pairs, Joined, Either}

abbrev Inside : List ℕ → ℕ → ℕ → Type 0
Inside line s p = (s ≤ p) × (p ≤ length line)

joins_inside : (line : List ℕ) (R : ℕ → ℕ → Type 0) → ((s p : ℕ) → R s p → Inside line s p)
    → (k s p : ℕ) → s ≤ length line → Joins R k s p → Inside line s p
joins_inside line R one zero s p l h = (omega arith, omega arith)
joins_inside line R one (suc k) s p l h =
    let a = one s h.0 h.1 in
    let b = joins_inside line R one k h.0 p a.1 h.2 in
    (omega arith, b.1)

mutual
  pub pairs_inside : (line : List ℕ) (F : Form) (s p : ℕ) → Pairs line F s p → (s ≤ p) × (p ≤ length line)
  pairs_inside line (quote bytes) s p h = (h.0, h.1)
  pairs_inside line (set items) s p h = (omega arith, omega arith)
  pairs_inside line (out items) s p h = (omega arith, omega arith)
  pairs_inside line (seq parts) s p h = joined_inside line parts s p h
  pairs_inside line (or parts) s p h = either_inside line parts s p h
  pairs_inside line (star part) s p h =
      joins_inside line (Pairs line part) (pairs_inside line part) h.1.0 s p h.0 h.1.1
  pairs_inside line (rep least most part) s p h =
      joins_inside line (Pairs line part) (pairs_inside line part) h.1.0 s p h.0 h.1.3
  pairs_inside line start s p h = (omega arith, omega arith)
  pairs_inside line end s p h = (omega arith, omega arith)

  joined_inside : (line : List ℕ) (parts : Forms) (s p : ℕ) → Joined line parts s p → (s ≤ p) × (p ≤ length line)
  joined_inside line nil s p h = (omega arith, omega arith)
  joined_inside line (cons part parts) s p h =
      let a = pairs_inside line part s h.0 h.1 in
      let b = joined_inside line parts h.0 p h.2 in
      (omega arith, b.1)

  either_inside : (line : List ℕ) (parts : Forms) (s p : ℕ) → Either line parts s p → (s ≤ p) × (p ≤ length line)
  either_inside line nil s p h = absurd h
  either_inside line (cons part parts) s p (inl h) = pairs_inside line part s p h
  either_inside line (cons part parts) s p (inr h) = either_inside line parts s p h
