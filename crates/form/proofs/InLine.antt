-- A line that stands in a tape: its pairs are the matches there. Assumes nothing.
use Rattle.std.proofs.Common.{◌≡◌, ℕ, zero, suc, ◌+◌, ◌-◌, ◌<◌, ◌≤◌, Bool, not, T, eqb, List, [], ◌∷◌, length, get_or, take, drop, sym, refl, ap, ◌∙◌, subst, inl, inr, arith, eqb→eq, T_not, length-drop, length-take, drop-cons}
use native.Mathlib.Decide.{dec_lt}
use Rattle.form.specs.Form.{Form, Forms, quote, set, out, seq, or, star, rep, start, end, nil, cons}
use Rattle.form.specs.Meaning.{feed, inside, outside, One, Spelled, Joins, Pairs, Joined, Either}
use Rattle.form.specs.Lines.{Place, LineEnd}
use Rattle.form.specs.Positions.{opens, Step, only, Spells, Matches, MatchAll, MatchAny, Ending, line_at, start_at, place_at}
use Rattle.form.proofs.Bits.{and_i, and_l, eqb_to, cond_true}
use Rattle.form.proofs.Inside.{pairs_inside}
use Rattle.form.proofs.Tapes.{Free, inside_free, outside_free, only_free, matches_le, matches_line, Quiet, line_quiet, start_quiet, start_here}

-- the bytes hold no line feed
abbrev pub Plain : List ℕ → Type 0
Plain line = (i : ℕ) → i < length line → T (not (eqb (get_or line i 0) feed))

-- the line stands in the tape from a on, closed by a line feed
pub record Stands (t : ℕ → ℕ) (a : ℕ) (line : List ℕ) : Type 0 where
  pub opened : T (opens t a)
  pub plain : Plain line
  pub same : (i : ℕ) → i < length line → t (a + i) ≡ get_or line i 0
  pub closing : T (eqb (t (a + length line)) feed)

-- the bytes from s to p are b and then those from the next on
more : (line bytes : List ℕ) (b s p : ℕ) → s < length line → get_or line s 0 ≡ b → Spelled line bytes (suc s) p → Spelled line (b ∷ bytes) s p
more line bytes b s p l e h =
    let d : p - s ≡ suc (p - suc s) = omega arith in
    let f : take (p - s) (drop s line) ≡ get_or line s 0 ∷ take (p - suc s) (drop (suc s) line) =
    subst (λ x. take x (drop s line) ≡ get_or line s 0 ∷ take (p - suc s) (drop (suc s) line)) (sym d)
    (ap (take (suc (p - suc s))) (drop-cons line s 0 l)) in
    (omega arith, h.1, f ∙ (λ i. e i ∷ h.2 i))

less : (line bytes : List ℕ) (b s p : ℕ) → Spelled line (b ∷ bytes) s p
    → (s < length line) × (get_or line s 0 ≡ b) × Spelled line bytes (suc s) p
less line bytes b s p h =
    let n : length (take (p - s) (drop s line)) ≡ suc (length bytes) = ap length h.2 in
    let l : s < p = omega (arith, length-take (p - s) (drop s line), length-drop s line) in
    let m : s < length line = omega arith in
    let d : p - s ≡ suc (p - suc s) = omega arith in
    let f : take (p - s) (drop s line) ≡ get_or line s 0 ∷ take (p - suc s) (drop (suc s) line) =
    subst (λ x. take x (drop s line) ≡ get_or line s 0 ∷ take (p - suc s) (drop (suc s) line)) (sym d)
    (ap (take (suc (p - suc s))) (drop-cons line s 0 m)) in
    let g : get_or line s 0 ∷ take (p - suc s) (drop (suc s) line) ≡ b ∷ bytes = sym f ∙ h.2 in
    (m, cc, (l, h.1, cc))

module _ (t : ℕ → ℕ) (a : ℕ) (line : List ℕ) (here : Stands t a line) where
  -- a byte of a class stands before the line's end
  before : (class : ℕ → Bool) → Free class → (s : ℕ) → s ≤ length line → T (class (t (a + s))) → s < length line
  before class free s l h =
      elim (dec_lt s (length line)) [
        | yes m ↦ m
        | no m ↦
            let e : s ≡ length line = omega arith in
            absurd (T_not (eqb (t (a + s)) feed) (free (t (a + s)) h) (subst (λ x. T (eqb (t (a + x)) feed)) (sym e) here.closing))
      ]

  one_to : (class : ℕ → Bool) (s p : ℕ) → One line class s p → Step t class (a + s) (a + p)
  one_to class s p h = (omega arith, subst (λ b. T (class b)) (sym (here.same s h.0)) h.2)

  one_from : (class : ℕ → Bool) → Free class → (s x : ℕ) → s ≤ length line → Step t class (a + s) x
      → (p : ℕ) × (x ≡ a + p) × One line class s p
  one_from class free s x l h =
      let m : s < length line = before class free s l h.1 in
      (suc s, omega arith, (m, refl, subst (λ b. T (class b)) (here.same s m) h.1))

  spells_to : (bytes : List ℕ) (s p : ℕ) → Spelled line bytes s p → Spells t bytes (a + s) (a + p)
  spells_to [] s p h =
      let n : length (take (p - s) (drop s line)) ≡ 0 = ap length h.2 in
      omega (arith, length-take (p - s) (drop s line), length-drop s line)
  spells_to (b ∷ bytes) s p h =
      let y = less line bytes b s p h in
      let e : t (a + s) ≡ b = here.same s y.0 ∙ y.1 in (
        a + suc s,
        (
          omega arith,
          and_i (eqb (t (a + s)) b) (not (eqb (t (a + s)) feed)) (eqb_to (t (a + s)) b e)
              (subst (λ c. T (not (eqb c feed))) (sym (here.same s y.0)) (here.plain s y.0)),
        ),
        spells_to bytes (suc s) p y.2,
      )

  spells_from : (bytes : List ℕ) (s x : ℕ) → s ≤ length line → Spells t bytes (a + s) x
      → (p : ℕ) × (x ≡ a + p) × Spelled line bytes s p
  spells_from [] s x l h =
      let z : 0 ≡ s - s = omega arith in (s, sym h, (omega arith, l, subst (λ n. take n (drop s line) ≡ []) z refl))
  spells_from (b ∷ bytes) s x l h =
      let y = one_from (only b) (only_free b) s h.0 l h.1 in
      let m : s < length line = y.2.0 in
      let e : get_or line s 0 ≡ b = eqb→eq (get_or line s 0) b (and_l (eqb (get_or line s 0) b) _ y.2.2) in
      let q : h.0 ≡ a + suc s = omega arith in
      let r = spells_from bytes (suc s) x m (subst (λ z. Spells t bytes z x) q h.2) in
      (r.0, r.1, more line bytes b s r.0 m e r.2)

  joins_to : (R Q : ℕ → ℕ → Type 0) → ((s p : ℕ) → R s p → Q (a + s) (a + p)) → (k s p : ℕ) → Joins R k s p → Joins Q k (a + s) (a + p)
  joins_to R Q one zero s p h = omega arith
  joins_to R Q one (suc k) s p h = (a + h.0, one s h.0 h.1, joins_to R Q one k h.0 p h.2)

  joins_from : (R Q : ℕ → ℕ → Type 0) → ((s x : ℕ) → s ≤ length line → Q (a + s) x → (p : ℕ) × (x ≡ a + p) × R s p)
      → ((s p : ℕ) → R s p → p ≤ length line)
      → (k s x : ℕ) → s ≤ length line → Joins Q k (a + s) x → (p : ℕ) × (x ≡ a + p) × Joins R k s p
  joins_from R Q one low zero s x l h = (s, sym h, refl)
  joins_from R Q one low (suc k) s x l h =
      let y = one s h.0 l h.1 in
      let r = joins_from R Q one low k y.0 x (low s y.0 y.2) (subst (λ z. Joins Q k z x) y.1 h.2) in
      (r.0, r.1, (y.0, y.2, r.2))

  opens_first : (s : ℕ) → s ≤ length line → T (opens t (a + s)) → s ≡ 0
  opens_first zero l h = refl
  opens_first (suc s) l h =
      let e : a + suc s ≡ suc (a + s) = omega arith in
      let x : T (eqb (t (a + s)) feed) = subst (λ z. T (opens t z)) e h in
      let y : T (eqb (get_or line s 0) feed) = subst (λ b. T (eqb b feed)) (here.same s l) x in
      absurd (T_not (eqb (get_or line s 0) feed) (here.plain s l) y)

  feeds_last : (s : ℕ) → s ≤ length line → T (eqb (t (a + s)) feed) → s ≡ length line
  feeds_last s l h =
      elim (dec_lt s (length line)) [
        | yes m ↦
            let y : T (eqb (get_or line s 0) feed) = subst (λ b. T (eqb b feed)) (here.same s m) h in
            absurd (T_not (eqb (get_or line s 0) feed) (here.plain s m) y)
        | no m ↦ omega arith
      ]

  mutual
    pub pairs_to : (F : Form) (s p : ℕ) → Pairs line F s p → Matches t F (a + s) (a + p)
    pairs_to (quote bytes) s p h = spells_to bytes s p h
    pairs_to (set items) s p h = one_to (inside items) s p h
    pairs_to (out items) s p h = one_to (outside items) s p h
    pairs_to (seq parts) s p h = joined_to parts s p h
    pairs_to (or parts) s p h = either_to parts s p h
    pairs_to (star part) s p h = (h.1.0, joins_to (Pairs line part) (Matches t part) (pairs_to part) h.1.0 s p h.1.1)
    pairs_to (rep least most part) s p h =
        (h.1.0, h.1.1, h.1.2, joins_to (Pairs line part) (Matches t part) (pairs_to part) h.1.0 s p h.1.3)
    pairs_to start s p h =
        let e : a ≡ a + s = omega arith in (omega arith, subst (λ z. T (opens t z)) e here.opened)
    pairs_to end s p h = (omega arith, subst (λ z. T (eqb (t (a + z)) feed)) (sym h.0) here.closing)

    joined_to : (parts : Forms) (s p : ℕ) → Joined line parts s p → MatchAll t parts (a + s) (a + p)
    joined_to nil s p h = omega arith
    joined_to (cons part parts) s p h = (a + h.0, pairs_to part s h.0 h.1, joined_to parts h.0 p h.2)

    either_to : (parts : Forms) (s p : ℕ) → Either line parts s p → MatchAny t parts (a + s) (a + p)
    either_to nil s p h = absurd h
    either_to (cons part parts) s p (inl h) = inl (pairs_to part s p h)
    either_to (cons part parts) s p (inr h) = inr (either_to parts s p h)

  mutual
    pub pairs_from : (F : Form) (s x : ℕ) → s ≤ length line → Matches t F (a + s) x → (p : ℕ) × (x ≡ a + p) × Pairs line F s p
    pairs_from (quote bytes) s x l h = spells_from bytes s x l h
    pairs_from (set items) s x l h = one_from (inside items) (inside_free items) s x l h
    pairs_from (out items) s x l h = one_from (outside items) (outside_free items) s x l h
    pairs_from (seq parts) s x l h = joined_from parts s x l h
    pairs_from (or parts) s x l h = either_from parts s x l h
    pairs_from (star part) s x l h =
        let y =
        joins_from (Pairs line part) (Matches t part) (pairs_from part) (λ u v r. (pairs_inside line part u v r).1) h.0 s x l
        h.1 in
        (y.0, y.1, (l, (h.0, y.2)))
    pairs_from (rep least most part) s x l h =
        let y =
        joins_from (Pairs line part) (Matches t part) (pairs_from part) (λ u v r. (pairs_inside line part u v r).1) h.0 s x l
        h.3 in
        (y.0, y.1, (l, (h.0, h.1, h.2, y.2)))
    pairs_from start s x l h = let z : s ≡ 0 = opens_first s l h.1 in (0, omega arith, (z, refl))
    pairs_from end s x l h = let z : s ≡ length line = feeds_last s l h.1 in (length line, omega arith, (z, refl))

    joined_from : (parts : Forms) (s x : ℕ) → s ≤ length line → MatchAll t parts (a + s) x → (p : ℕ) × (x ≡ a + p) × Joined line parts s p
    joined_from nil s x l h = (s, sym h, (l, refl))
    joined_from (cons part parts) s x l h =
        let y = pairs_from part s h.0 l h.1 in
        let r =
        joined_from parts y.0 x (pairs_inside line part s y.0 y.2).1
        (subst (λ z. MatchAll t parts z x) y.1 h.2) in
        (r.0, r.1, (y.0, y.2, r.2))

    either_from : (parts : Forms) (s x : ℕ) → s ≤ length line → MatchAny t parts (a + s) x → (p : ℕ) × (x ≡ a + p) × Either line parts s p
    either_from nil s x l h = absurd h
    either_from (cons part parts) s x l (inl h) = let y = pairs_from part s x l h in (y.0, y.1, inl y.2)
    either_from (cons part parts) s x l (inr h) = let y = either_from parts s x l h in (y.0, y.1, inr y.2)

  -- the line and the start of its positions
  quiet : (i : ℕ) → i ≤ length line → Quiet t a i
  quiet i l j h =
      let m : j < length line = omega arith in
      subst (λ b. T (not (eqb b feed))) (sym (here.same j m)) (here.plain j m)

  line_same : (i : ℕ) → i ≤ length line → line_at t (a + i) ≡ line_at t a
  line_same i l = line_quiet t a i (quiet i l)

  start_same : (i : ℕ) → i ≤ length line → start_at t (a + i) ≡ a
  start_same i l = start_quiet t a i (quiet i l) ∙ start_here t a here.opened

  pub line_next : line_at t (a + suc (length line)) ≡ suc (line_at t a)
  line_next =
      let e : a + suc (length line) ≡ suc (a + length line) = omega arith in
      ap (line_at t) e
      ∙ (cond_true (eqb (t (a + length line)) feed) _ _ here.closing ∙ ap suc (line_same (length line) (omega arith)))

  -- no match comes from before the line
  low : (F : Form) (s p : ℕ) → a ≤ p → Matches t F s p → a ≤ s
  low F s p l h = go a here.opened l
    where
      go : (b : ℕ) → T (opens t b) → b ≤ p → b ≤ s
      go zero o m = omega arith
      go (suc b) o m =
          elim (dec_lt b s) [ yes k ↦ k | no k ↦ absurd (omega (arith, matches_line t b o F s p (omega arith) h)) ]

  -- an end of the line, by its position
  abbrev pub InLine : Form → Place → Type 0
  InLine F e =
      (a ≤ e.position) × (e.position ≤ a + length line) × Ending t F e.position × (e ≡ place_at t e.position)

  pub line_to : (F : Form) (e : Place) → LineEnd F (line_at t a) a line e → InLine F e
  line_to F e h =
      let c : ℕ = e.column in
      let l = pairs_inside line F h.pair.0 c h.pair.1 in
      let p : e.position ≡ a + c = h.position in
      let f : line_at t a ≡ line_at t e.position = sym (ap (line_at t) p ∙ line_same c l.1) in
      let g : start_at t e.position ≡ a = ap (start_at t) p ∙ start_same c l.1 in
      let k : c ≡ e.position - start_at t e.position = omega arith in (
        omega arith,
        omega arith,
        (a + h.pair.0, subst (Matches t F (a + h.pair.0)) (sym p) (pairs_to F h.pair.0 c h.pair.1)),
        λ i. record { line = (h.line ∙ f) i; column = k i; position = e.position },
      )

  pub line_from : (F : Form) (e : Place) → InLine F e → LineEnd F (line_at t a) a line e
  line_from F e h =
      let p : ℕ = e.position in
      let s : ℕ = h.2.0 in
      let l : a ≤ s = low F s p h.0 h.2.1 in
      let r : s ≤ p = matches_le t F s p h.2.1 in
      let d : s ≡ a + (s - a) = omega arith in
      let y = pairs_from F (s - a) p (omega arith) (subst (λ z. Matches t F z p) d h.2.1) in
      let x : p ≡ a + y.0 = y.1 in
      let m : y.0 ≤ length line = (pairs_inside line F (s - a) y.0 y.2).1 in
      let g : start_at t p ≡ a = ap (start_at t) x ∙ start_same y.0 m in
      let c : e.column ≡ p - start_at t p = ap (λ (z : Place). z.column) h.3 in
      let k : y.0 ≡ e.column = omega arith in
      record {
        line = ap (λ (z : Place). z.line) h.3 ∙ (ap (line_at t) x ∙ line_same y.0 m);
        position = omega arith;
        pair = (s - a, subst (Pairs line F (s - a)) k y.2);
      }
