-- Matches over a tape: they go forwards, leave no line, and depend on no byte behind their end. Assumes nothing.
use Rattle.std.proofs.Common.{◌≡◌, ℕ, zero, suc, ◌+◌, ◌-◌, ◌<◌, ◌≤◌, Bool, cond, not, T, eqb, List, [], ◌∷◌, refl, ap, ◌∙◌, subst, inl, inr, arith, T_not}
use native.Mathlib.Decide.{dec_lt}
use Rattle.form.specs.Form.{Item, Form, Forms, quote, set, out, seq, or, star, rep, start, end, nil, cons}
use Rattle.form.specs.Meaning.{feed, listed, inside, outside, Joins}
use Rattle.form.specs.Positions.{opens, Step, only, Spells, Matches, MatchAll, MatchAny, Ending, line_at, start_at, place_at}
use Rattle.form.proofs.Bits.{and_r, cond_true, cond_false}

-- the class has no line feed
abbrev pub Free : (ℕ → Bool) → Type 0
Free class = (byte : ℕ) → T (class byte) → T (not (eqb byte feed))

pub inside_free : (items : List Item) → Free (inside items)
inside_free items byte h = and_r (listed items byte) (not (eqb byte feed)) h

pub outside_free : (items : List Item) → Free (outside items)
outside_free items byte h = and_r (not (listed items byte)) (not (eqb byte feed)) h

pub only_free : (quoted : ℕ) → Free (only quoted)
only_free quoted byte h = and_r (eqb byte quoted) (not (eqb byte feed)) h

joins_le : (R : ℕ → ℕ → Type 0) → ((s p : ℕ) → R s p → s ≤ p) → (k s p : ℕ) → Joins R k s p → s ≤ p
joins_le R le zero s p h = omega arith
joins_le R le (suc k) s p h = omega (arith, le s h.0 h.1, joins_le R le k h.0 p h.2)

module _ (t : ℕ → ℕ) where
  spells_le : (bytes : List ℕ) (s p : ℕ) → Spells t bytes s p → s ≤ p
  spells_le [] s p h = omega arith
  spells_le (b ∷ bytes) s p h = omega (arith, spells_le bytes h.0 p h.2)

  mutual
    pub matches_le : (F : Form) (s p : ℕ) → Matches t F s p → s ≤ p
    matches_le (quote bytes) s p h = spells_le bytes s p h
    matches_le (set items) s p h = omega arith
    matches_le (out items) s p h = omega arith
    matches_le (seq parts) s p h = all_le parts s p h
    matches_le (or parts) s p h = any_le parts s p h
    matches_le (star part) s p h = joins_le (Matches t part) (matches_le part) h.0 s p h.1
    matches_le (rep least most part) s p h = joins_le (Matches t part) (matches_le part) h.0 s p h.3
    matches_le start s p h = omega arith
    matches_le end s p h = omega arith

    all_le : (parts : Forms) (s p : ℕ) → MatchAll t parts s p → s ≤ p
    all_le nil s p h = omega arith
    all_le (cons part parts) s p h = omega (arith, matches_le part s h.0 h.1, all_le parts h.0 p h.2)

    any_le : (parts : Forms) (s p : ℕ) → MatchAny t parts s p → s ≤ p
    any_le nil s p h = absurd h
    any_le (cons part parts) s p (inl h) = matches_le part s p h
    any_le (cons part parts) s p (inr h) = any_le parts s p h

  -- a line feed at x
  module _ (x : ℕ) (here : T (eqb (t x) feed)) where
    step_line : (class : ℕ → Bool) → Free class → (s p : ℕ) → s ≤ x → Step t class s p → p ≤ x
    step_line class free s p l h =
        elim (dec_lt s x) [
          | yes m ↦ omega arith
          | no m ↦
              let e : s ≡ x = omega arith in
              absurd (T_not (eqb (t x) feed) (free (t x) (subst (λ y. T (class (t y))) e h.1)) here)
        ]

    spells_line : (bytes : List ℕ) (s p : ℕ) → s ≤ x → Spells t bytes s p → p ≤ x
    spells_line [] s p l h = omega arith
    spells_line (b ∷ bytes) s p l h = spells_line bytes h.0 p (step_line (only b) (only_free b) s h.0 l h.1) h.2

    joins_line : (R : ℕ → ℕ → Type 0) → ((s p : ℕ) → s ≤ x → R s p → p ≤ x) → (k s p : ℕ) → s ≤ x → Joins R k s p → p ≤ x
    joins_line R one zero s p l h = omega arith
    joins_line R one (suc k) s p l h = joins_line R one k h.0 p (one s h.0 l h.1) h.2

    mutual
      pub matches_line : (F : Form) (s p : ℕ) → s ≤ x → Matches t F s p → p ≤ x
      matches_line (quote bytes) s p l h = spells_line bytes s p l h
      matches_line (set items) s p l h = step_line (inside items) (inside_free items) s p l h
      matches_line (out items) s p l h = step_line (outside items) (outside_free items) s p l h
      matches_line (seq parts) s p l h = all_line parts s p l h
      matches_line (or parts) s p l h = any_line parts s p l h
      matches_line (star part) s p l h = joins_line (Matches t part) (matches_line part) h.0 s p l h.1
      matches_line (rep least most part) s p l h = joins_line (Matches t part) (matches_line part) h.0 s p l h.3
      matches_line start s p l h = omega arith
      matches_line end s p l h = omega arith

      all_line : (parts : Forms) (s p : ℕ) → s ≤ x → MatchAll t parts s p → p ≤ x
      all_line nil s p l h = omega arith
      all_line (cons part parts) s p l h = all_line parts h.0 p (matches_line part s h.0 l h.1) h.2

      any_line : (parts : Forms) (s p : ℕ) → s ≤ x → MatchAny t parts s p → p ≤ x
      any_line nil s p l h = absurd h
      any_line (cons part parts) s p l (inl h) = matches_line part s p l h
      any_line (cons part parts) s p l (inr h) = any_line parts s p l h

-- two tapes that agree up to n
module _ (t u : ℕ → ℕ) (n : ℕ) (agree : (i : ℕ) → i ≤ n → t i ≡ u i) where
  opens_agree : (p : ℕ) → p ≤ n → T (opens t p) → T (opens u p)
  opens_agree zero l h = tt
  opens_agree (suc p) l h = subst (λ b. T (eqb b feed)) (agree p (omega arith)) h

  step_agree : (class : ℕ → Bool) (s p : ℕ) → p ≤ n → Step t class s p → Step u class s p
  step_agree class s p l h = (h.0, subst (λ b. T (class b)) (agree s (omega arith)) h.1)

  spells_agree : (bytes : List ℕ) (s p : ℕ) → p ≤ n → Spells t bytes s p → Spells u bytes s p
  spells_agree [] s p l h = h
  spells_agree (b ∷ bytes) s p l h =
      let m : h.0 ≤ p = spells_le t bytes h.0 p h.2 in
      (h.0, step_agree (only b) s h.0 (omega arith) h.1, spells_agree bytes h.0 p l h.2)

  joins_agree : (R Q : ℕ → ℕ → Type 0) → ((s p : ℕ) → R s p → s ≤ p) → ((s p : ℕ) → p ≤ n → R s p → Q s p)
      → (k s p : ℕ) → p ≤ n → Joins R k s p → Joins Q k s p
  joins_agree R Q le one zero s p l h = h
  joins_agree R Q le one (suc k) s p l h =
      let m : h.0 ≤ p = joins_le R le k h.0 p h.2 in
      (h.0, one s h.0 (omega arith) h.1, joins_agree R Q le one k h.0 p l h.2)

  mutual
    pub matches_agree : (F : Form) (s p : ℕ) → p ≤ n → Matches t F s p → Matches u F s p
    matches_agree (quote bytes) s p l h = spells_agree bytes s p l h
    matches_agree (set items) s p l h = step_agree (inside items) s p l h
    matches_agree (out items) s p l h = step_agree (outside items) s p l h
    matches_agree (seq parts) s p l h = all_agree parts s p l h
    matches_agree (or parts) s p l h = any_agree parts s p l h
    matches_agree (star part) s p l h =
        (h.0, joins_agree (Matches t part) (Matches u part) (matches_le t part) (matches_agree part) h.0 s p l h.1)
    matches_agree (rep least most part) s p l h =
        (h.0, h.1, h.2, joins_agree (Matches t part) (Matches u part) (matches_le t part) (matches_agree part) h.0 s p l h.3)
    matches_agree start s p l h = (h.0, opens_agree s (omega arith) h.1)
    matches_agree end s p l h = (h.0, subst (λ b. T (eqb b feed)) (agree s (omega arith)) h.1)

    all_agree : (parts : Forms) (s p : ℕ) → p ≤ n → MatchAll t parts s p → MatchAll u parts s p
    all_agree nil s p l h = h
    all_agree (cons part parts) s p l h =
        let m : h.0 ≤ p = all_le t parts h.0 p h.2 in
        (h.0, matches_agree part s h.0 (omega arith) h.1, all_agree parts h.0 p l h.2)

    any_agree : (parts : Forms) (s p : ℕ) → p ≤ n → MatchAny t parts s p → MatchAny u parts s p
    any_agree nil s p l h = absurd h
    any_agree (cons part parts) s p l (inl h) = inl (matches_agree part s p l h)
    any_agree (cons part parts) s p l (inr h) = inr (any_agree parts s p l h)

  pub ending_agree : (F : Form) (p : ℕ) → p ≤ n → Ending t F p → Ending u F p
  ending_agree F p l h = (h.0, matches_agree F h.0 p l h.1)

  line_agree : (p : ℕ) → p ≤ n → line_at t p ≡ line_at u p
  line_agree zero l = refl
  line_agree (suc p) l =
      let e : t p ≡ u p = agree p (omega arith) in
      let f : line_at t p ≡ line_at u p = line_agree p (omega arith) in
      λ i. cond (eqb (e i) feed) (suc (f i)) (f i)

  start_agree : (p : ℕ) → p ≤ n → start_at t p ≡ start_at u p
  start_agree zero l = refl
  start_agree (suc p) l =
      let e : t p ≡ u p = agree p (omega arith) in
      let f : start_at t p ≡ start_at u p = start_agree p (omega arith) in
      λ i. cond (eqb (e i) feed) (suc p) (f i)

  pub place_agree : (p : ℕ) → p ≤ n → place_at t p ≡ place_at u p
  place_agree p l = λ i. record { line = line_agree p l i; column = p - start_agree p l i; position = p }

-- where no line feed stands from a up to a + i, both are of one line
module _ (t : ℕ → ℕ) (a : ℕ) where
  abbrev pub Quiet : ℕ → Type 0
  Quiet n = (i : ℕ) → i < n → T (not (eqb (t (a + i)) feed))

  pub line_quiet : (n : ℕ) → Quiet n → line_at t (a + n) ≡ line_at t a
  line_quiet zero h = ap (line_at t) (omega arith)
  line_quiet (suc n) h =
      let e : a + suc n ≡ suc (a + n) = omega arith in
      ap (line_at t) e
      ∙ (cond_false (eqb (t (a + n)) feed) _ _ (h n (omega arith)) ∙ line_quiet n (λ i l. h i (omega arith)))

  pub start_quiet : (n : ℕ) → Quiet n → start_at t (a + n) ≡ start_at t a
  start_quiet zero h = ap (start_at t) (omega arith)
  start_quiet (suc n) h =
      let e : a + suc n ≡ suc (a + n) = omega arith in
      ap (start_at t) e
      ∙ (cond_false (eqb (t (a + n)) feed) _ _ (h n (omega arith)) ∙ start_quiet n (λ i l. h i (omega arith)))

-- a line starts where it starts
pub start_here : (t : ℕ → ℕ) (p : ℕ) → T (opens t p) → start_at t p ≡ p
start_here t zero h = refl
start_here t (suc p) h = cond_true (eqb (t p) feed) _ _ h
