-- Groups and first ones of two rows of v bits behind one another, below the answered width. Assumes nothing.
use Rattle.std.proofs.Common.{◌≡◌, ℕ, ◌+◌, ◌-◌, ◌*◌, ◌<◌, ◌≤◌, Bool, false, List, ◌++◌, length, Some, None, Option, sym, ap, ◌∙◌, subst, inl, inr, arith}
use native.Mathlib.Decide.{dec_lt}
use Rattle.std.specs.Option.{MatchOption}
use Rattle.block.specs.Rows.{bit}
use Rattle.block.specs.Calls.{answered, Served, Put, Read, First}
use Rattle.doubled.specs.Halves.{InLate, Place}
use Rattle.doubled.proofs.Halves.{early, late, behind}

-- the rows a and c, of v places each
module _ (v : ℕ) (a c : List Bool) (la : length a ≡ v) where
  -- a group of a
  module _ (k n byte : ℕ) (g : (n ≡ k) × Served v k) where
    pub put_early : (r : List Bool) → length r ≡ v → Put v a n byte r → Put (v + v) (a ++ c) k byte (r ++ c)
    put_early r lr q =
        let p : Put v a k byte r = subst (λ m. Put v a m byte r) g.0 q in
        record {
          inside = λ _ j h. early v r c lr (8 * k + j) (omega arith) ∙ p.inside g.1 j h;
          outside =
              λ _ i h.
              elim (dec_lt i v) [
                | yes l ↦ early v r c lr i l ∙ p.outside g.1 i h ∙ sym (early v a c la i l)
                | no l ↦ behind v r c lr i (omega arith) ∙ sym (behind v a c la i (omega arith))
              ];
          past = λ h. absurd (omega arith);
        }

    pub read_early : Read v a n byte → Read (v + v) (a ++ c) k byte
    read_early q =
        let p : Read v a k byte = subst (λ m. Read v a m byte) g.0 q in
        record { inside = λ _ j h. p.inside g.1 j h ∙ sym (early v a c la (8 * k + j) (omega arith)); past = λ h. absurd (omega arith) }

  -- a group of c
  module _ (k n byte : ℕ) (g : InLate v k n) where
    at : (j : ℕ) → 8 * k + j ≡ v + (8 * n + j)
    at j = omega (arith, g.at)

    pub put_late : (r : List Bool) → Put v c n byte r → Put (v + v) (a ++ c) k byte (a ++ r)
    put_late r p =
        record {
          inside = λ _ j h. ap (bit (a ++ r)) (at j) ∙ late v a r la (8 * n + j) ∙ p.inside g.half j h;
          outside =
              λ _ i h.
              elim (dec_lt i v) [
                | yes l ↦ early v a r la i l ∙ sym (early v a c la i l)
                | no l ↦
                    behind v a r la i (omega arith) ∙ p.outside g.half (i - v) (elim h [ inl u ↦ inl (omega (arith, g.at)) | inr u ↦ inr (omega (arith, g.at)) ])
                    ∙ sym (behind v a c la i (omega arith))
              ];
          past = λ h. absurd (omega (arith, g.whole));
        }

    pub read_late : Read v c n byte → Read (v + v) (a ++ c) k byte
    read_late p =
        record { inside = λ _ j h. p.inside g.half j h ∙ sym (ap (bit (a ++ c)) (at j) ∙ late v a c la (8 * n + j)); past = λ h. absurd (omega (arith, g.whole)) }

  first_early : (i p : ℕ) → First v a i (Some p) → First (v + v) (a ++ c) i (Some p)
  first_early i p (from, to, one, none) =
      (from, omega arith, early v a c la p (omega arith) ∙ one, λ q h l. early v a c la q (omega arith) ∙ none q h l)

  -- what is found in a, or in c where a has none
  pub first_either : {Late : Type 0} (i : ℕ) (p r : Option ℕ) → First v a i p → MatchOption p Late (λ x. r ≡ Some x)
      → (Late → First v a i None → First (v + v) (a ++ c) i r) → First (v + v) (a ++ c) i r
  first_either i (Some p) r found is late = subst (First (v + v) (a ++ c) i) (sym is) (first_early i p found)
  first_either i None r none is late = late is none

  -- none in a; in c from j on
  module _ (i j : ℕ) (start : j ≡ i - answered v) (before : First v a i None) where
    none_yet : (q : ℕ) → ((p : ℕ) → j ≤ p → p < q → bit c p ≡ false) → (p : ℕ) → i ≤ p → p < answered v + q → p < answered (v + v) → bit (a ++ c) p ≡ false
    none_yet q none p h l m =
        elim (dec_lt p (answered v)) [
          | yes b ↦ early v a c la p (omega arith) ∙ before p h b
          | no b ↦ behind v a c la p (omega arith) ∙ none (p - v) (omega arith) (omega arith)
        ]

    pub first_none : First v c j None → First (v + v) (a ++ c) i None
    first_none none p f l = none_yet (answered v) none p f (omega arith) l

    pub first_late : (q : ℕ) (r : Option ℕ) → First v c j (Some q) → Place v q r → First (v + v) (a ++ c) i r
    first_late q None (from, to, one, none) h = λ p f l. none_yet q none p f (omega arith) l
    first_late q (Some p) (from, to, one, none) (is, h) =
        let own : p ≡ v + q = omega arith in
        (omega arith, h, ap (bit (a ++ c)) own ∙ late v a c la q ∙ one, λ o f l. none_yet q none o f (omega arith) (omega arith))
