-- What MatchStar's sum shows. Assumes nothing.
use Rattle.std.proofs.Common.{◌≡◌, ℕ, zero, suc, ◌<◌, ◌≤◌, Bool, true, false, ◌&&◌, ◌||◌, List, length, sym, refl, ap, ◌∙◌, subst, ap₂, inl, inr, arith}
use native.Mathlib.Decide.{dec_lt}
use Rattle.std.proofs.lemmas.Bool.{and_parts, or_cases, or_left, or_right}
use Rattle.block.specs.Rows.{bit, tab, row_of}
use Rattle.block.specs.Calls.{differ, and_row, or_row, xor_row, Add}
use Rattle.block.specs.Sums.{over, sum, sum_row, sum_out}
use Rattle.block.proofs.Rows.{bit_tab, bit_past}
use Rattle.block.proofs.Sums.{sums_agree_lem}
use Rattle.stream.specs.MatchStar.{star_row, star_out, Through, Reached, Star, Examples}

-- the carry that the sum hands on, and the bit that it shows, at one place
pub thread : (m c k : Bool) → (((m && c) && c) || (((m && c) || c) && k)) ≡ (c && (m || k))
thread true true true = refl
thread true true false = refl
thread true false true = refl
thread true false false = refl
thread false true true = refl
thread false true false = refl
thread false false true = refl
thread false false false = refl

pub shown : (m c k : Bool) → (differ (differ (differ (m && c) c) k) c || m) ≡ (m || k)
shown true true true = refl
shown true true false = refl
shown true false true = refl
shown true false false = refl
shown false true true = refl
shown false true false = refl
shown false false true = refl
shown false false false = refl

module _ (w : ℕ) (marks class : List Bool) (carry : Bool) (wide : length marks ≡ w) where
  -- whether place p is reached from before it
  into : ℕ → Bool
  into p = over (bit (and_row w marks class)) (bit class) carry p

  into_next : (p : ℕ) → p < w → into (suc p) ≡ (bit class p && (bit marks p || into p))
  unfolding into over
  into_next p l =
      ap (λ x. (x && bit class p) || ((x || bit class p) && over (bit (and_row w marks class)) (bit class) carry p)) (bit_tab w (λ i. bit marks i && bit class i) p l)
      ∙ thread (bit marks p) (bit class p) (over (bit (and_row w marks class)) (bit class) carry p)

  star_bit : (p : ℕ) → p < w → bit (star_row w marks class carry) p ≡ (bit marks p || into p)
  unfolding into
  star_bit p l =
      bit_tab w (λ i. bit (xor_row w (sum_row w (and_row w marks class) class carry) class) i || bit marks i) p l
      ∙ ap (λ x. x || bit marks p)
      (bit_tab w (λ i. differ (bit (sum_row w (and_row w marks class) class carry) i) (bit class i)) p l
      ∙ ap (λ x. differ x (bit class p))
      (bit_tab w (sum (bit (and_row w marks class)) (bit class) carry) p l
      ∙ ap (λ x. differ (differ x (bit class p)) (into p)) (bit_tab w (λ i. bit marks i && bit class i) p l)))
      ∙ shown (bit marks p) (bit class p) (into p)

  further : (p : ℕ) → bit class p ≡ true → Reached marks class carry p → Reached marks class carry (suc p)
  further p c (inl (s, l, m, t)) = inl (s, omega arith, m, longer)
    where
      longer : Through class s (suc p)
      longer q f u = elim (dec_lt q p) [ yes v ↦ t q f v | no v ↦ let e : p ≡ q = omega arith in subst (λ x. bit class x ≡ true) e c ]
  further p c (inr (k, t)) = inr (k, longer)
    where
      longer : Through class 0 (suc p)
      longer q f u = elim (dec_lt q p) [ yes v ↦ t q f v | no v ↦ let e : p ≡ q = omega arith in subst (λ x. bit class x ≡ true) e c ]

  own : (p : ℕ) → bit marks p ≡ true → Reached marks class carry p
  own p m = inl (p, omega arith, m, λ q f u. absurd (omega arith))

  reached_into : (p : ℕ) → p ≤ w → into p ≡ true → Reached marks class carry p
  unfolding into over
  reached_into zero l e = inr (e, λ q f u. absurd (omega arith))
  reached_into (suc p) l e =
      let x = and_parts (bit class p) (bit marks p || into p) (sym (into_next p (omega arith)) ∙ e) in
      further p x.0 (elim (or_cases (bit marks p) (into p) x.1) [ inl m ↦ own p m | inr k ↦ reached_into p (omega arith) k ])

  step : (p : ℕ) → p < w → bit class p ≡ true → (bit marks p || into p) ≡ true → into (suc p) ≡ true
  step p l c h = into_next p l ∙ ap₂ ◌&&◌ c h

  -- from a mark at s, or from the carry at place 0
  from_mark : (p s : ℕ) → p ≤ w → s ≤ p → bit marks s ≡ true → Through class s p → (bit marks p || into p) ≡ true
  from_mark zero s l f m t = let e : s ≡ 0 = omega arith in or_left (bit marks 0) (into 0) (subst (λ x. bit marks x ≡ true) e m)
  from_mark (suc p) s l f m t =
      elim (dec_lt p s) [
        | yes u ↦ let e : s ≡ suc p = omega arith in or_left (bit marks (suc p)) (into (suc p)) (subst (λ x. bit marks x ≡ true) e m)
        | no u ↦
            or_right (bit marks (suc p)) (into (suc p))
            (step p (omega arith) (t p (omega arith) (omega arith)) (from_mark p s (omega arith) (omega arith) m (λ q a b. t q a (omega arith))))
      ]

  from_carry : (p : ℕ) → p ≤ w → carry ≡ true → Through class 0 p → (bit marks p || into p) ≡ true
  unfolding into over
  from_carry zero l k t = or_right (bit marks 0) carry k
  from_carry (suc p) l k t =
      or_right (bit marks (suc p)) (into (suc p))
      (step p (omega arith) (t p (omega arith) (omega arith)) (from_carry p (omega arith) k (λ q a b. t q a (omega arith))))

  to_bit : (p : ℕ) → p ≤ w → Reached marks class carry p → (bit marks p || into p) ≡ true
  to_bit p l (inl (s, f, m, t)) = from_mark p s l f m t
  to_bit p l (inr (k, t)) = from_carry p l k t

  from_bit : (p : ℕ) → p ≤ w → (bit marks p || into p) ≡ true → Reached marks class carry p
  from_bit p l e = elim (or_cases (bit marks p) (into p) e) [ inl m ↦ own p m | inr k ↦ reached_into p l k ]

  -- no mark stands behind the row
  at_end : (bit marks w || into w) ≡ into w
  at_end = ap (λ x. x || into w) (bit_past marks w (omega arith))

  pub star_means : Star w marks class carry (star_row w marks class carry) (star_out w marks class carry)
  unfolding into
  star_means =
      record {
        within = λ p l. (λ e. from_bit p (omega arith) (sym (star_bit p l) ∙ e), λ r. star_bit p l ∙ to_bit p (omega arith) r);
        behind = (λ e. from_bit w (omega arith) (at_end ∙ e), λ r. sym at_end ∙ to_bit w (omega arith) r);
      }

-- what the calls of `match_star` give
pub star_formula : (w : ℕ) (marks class both total apart r : List Bool) (carry out : Bool) → length total ≡ w
    → both ≡ and_row w marks class → Add w both class carry total out → apart ≡ xor_row w total class → r ≡ or_row w apart marks
    → (r ≡ star_row w marks class carry) × (out ≡ star_out w marks class carry)
star_formula w marks class both total apart r carry out long eb ea ex er =
    let s = (sums_agree_lem w both class carry total out long).0 ea in
    (er ∙ ap (λ x. or_row w x marks) (ex ∙ ap (λ x. xor_row w x class) (s.0 ∙ ap (λ x. sum_row w x class carry) eb)), s.1 ∙ ap (λ x. sum_out w x class carry) eb)

pub examples : Examples
unfolding tab bit row_of over
examples = (refl, refl, refl, refl)
