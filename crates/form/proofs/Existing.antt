-- Every recording has its list of ends, and only one. Assumes nothing.
use Rattle.std.proofs.Common.{◌≡◌, ℕ, zero, suc, ◌+◌, ◌<◌, ◌≤◌, Bool, true, false, ◌||◌, T, eqb, ◌⊎◌, List, [], ◌∷◌, ◌++◌, length, sym, refl, ap, subst, inl, inr, arith, eqb→eq}
use native.Mathlib.Decide.{dec_lt}
use Rattle.form.specs.Form.{Form}
use Rattle.form.specs.Meaning.{Pairs}
use Rattle.form.specs.Lines.{lines, Place, LineEnd, SomeEnd, Has, Rising, Ends, EndsExist, EndsUnique}
use Rattle.form.proofs.Bits.{eqb_to, or_l, or_r, or_cases}
use Rattle.form.proofs.Inside.{pairs_inside}
use Rattle.form.proofs.Members.{has_left, has_right, has_cases, each, each_from, each_to, keep, keep_from, keep_to, down_from, down_to}
use Rattle.form.proofs.Listing.{nexts, nexts_from, nexts_to}
use Rattle.form.proofs.Ordered.{rising_unique, rising_append}

abbrev among : ℕ → List ℕ → Bool
among x [] = false
among x (y ∷ ys) = eqb x y || among x ys

among_from : (x : ℕ) (ys : List ℕ) → T (among x ys) → Has x ys
among_from x [] t = absurd t
among_from x (y ∷ ys) t =
    elim (or_cases (eqb x y) (among x ys) t) [ inl a ↦ inl (eqb→eq x y a) | inr b ↦ inr (among_from x ys b) ]

among_to : (x : ℕ) (ys : List ℕ) → Has x ys → T (among x ys)
among_to x [] h = absurd h
among_to x (y ∷ ys) (inl e) = or_l (eqb x y) (among x ys) (eqb_to x y e)
among_to x (y ∷ ys) (inr h) = or_r (eqb x y) (among x ys) (among_to x ys h)

-- column p of the line is an end
abbrev is_column : Form → List ℕ → ℕ → Bool
is_column F line p = among p (each (nexts line F) (down_from (length line)))

column_from : (F : Form) (line : List ℕ) (p : ℕ) → T (is_column F line p) → (s : ℕ) × Pairs line F s p
column_from F line p t =
    let a = each_from (nexts line F) p (down_from (length line)) (among_from p _ t) in (a.0, nexts_from line F a.0 p a.2)

column_to : (F : Form) (line : List ℕ) (s p : ℕ) → Pairs line F s p → T (is_column F line p)
column_to F line s p h =
    let l = pairs_inside line F s p h in
    among_to p _ (each_to (nexts line F) p s (down_from (length line)) (down_to (length line) s (omega arith)) (nexts_to line F s p h))

module _ (number start : ℕ) (test : ℕ → Bool) where
  abbrev at : ℕ → Place
  at c = record { line = number; column = c; position = start + c }

  -- of m columns from c on, those that pass
  abbrev passing : ℕ → ℕ → List Place
  passing c zero = []
  passing c (suc m) = keep (test c) (at c ∷ []) ++ passing (suc c) m

  passing_from : (c m : ℕ) (e : Place) → Has e (passing c m) → (x : ℕ) × (c ≤ x) × (x < c + m) × T (test x) × (e ≡ at x)
  passing_from c zero e h = absurd h
  passing_from c (suc m) e h = go (has_cases e (keep (test c) (at c ∷ [])) (passing (suc c) m) h) (passing_from (suc c) m e)
    where
      one : Has e (at c ∷ []) → e ≡ at c
      one (inl k) = k
      one (inr k) = absurd k

      go : Has e (keep (test c) (at c ∷ [])) ⊎ Has e (passing (suc c) m)
          → (Has e (passing (suc c) m) → (x : ℕ) × (suc c ≤ x) × (x < suc c + m) × T (test x) × (e ≡ at x))
          → (x : ℕ) × (c ≤ x) × (x < c + suc m) × T (test x) × (e ≡ at x)
      go (inl k) ih =
          let a = keep_from e (test c) (at c ∷ []) k in (c, omega arith, omega arith, a.0, one a.1)
      go (inr k) ih = let a = ih k in (a.0, omega arith, omega arith, a.3, a.4)

  passing_to : (c m x : ℕ) → c ≤ x → x < c + m → T (test x) → Has (at x) (passing c m)
  passing_to c zero x l h t = absurd (omega arith)
  passing_to c (suc m) x l h t =
      elim (dec_lt c x) [
        | yes k ↦ has_right (at x) (keep (test c) (at c ∷ [])) (passing (suc c) m) (passing_to (suc c) m x (omega arith) (omega arith) t)
        | no k ↦
            let e : x ≡ c = omega arith in
            has_left (at x) (keep (test c) (at c ∷ [])) (passing (suc c) m)
            (keep_to (at x) (test c) (at c ∷ []) (subst (λ y. T (test y)) e t) (inl (ap at e)))
      ]

  passing_rising : (c m : ℕ) → Rising (passing c m)
  passing_rising c zero = tt
  passing_rising c (suc m) = rising_append (keep (test c) (at c ∷ [])) (passing (suc c) m) (alone (test c)) (passing_rising (suc c) m) before
    where
      alone : (b : Bool) → Rising (keep b (at c ∷ []))
      alone true = (λ x h. absurd h, tt)
      alone false = tt

      here : (x : Place) → Has x (at c ∷ []) → x.position ≡ start + c
      here x (inl k) = ap (λ (y : Place). y.position) k
      here x (inr k) = absurd k

      before : (x y : Place) → Has x (keep (test c) (at c ∷ [])) → Has y (passing (suc c) m) → x.position < y.position
      before x y h k =
          let a : x.position ≡ start + c = here x (keep_from x (test c) (at c ∷ []) h).1 in
          let b = passing_from (suc c) m y k in
          omega (arith, ap (λ (z : Place). z.position) b.4)

-- the ends of a line, and of several
abbrev ends_in : Form → (number start : ℕ) → List ℕ → List Place
ends_in F number start line = passing number start (is_column F line) 0 (suc (length line))

abbrev ends_from : Form → (number start : ℕ) → List (List ℕ) → List Place
ends_from F number start [] = []
ends_from F number start (line ∷ rest) =
    ends_in F number start line ++ ends_from F (suc number) (start + suc (length line)) rest

line_from : (F : Form) (number start : ℕ) (line : List ℕ) (e : Place) → Has e (ends_in F number start line) → LineEnd F number start line e
line_from F number start line e h =
    let a = passing_from number start (is_column F line) 0 (suc (length line)) e h in
    let g : e ≡ at number start (is_column F line) a.0 = a.4 in
    subst (LineEnd F number start line) (sym g) (record { line = refl; position = refl; pair = column_from F line a.0 a.3 })

line_to : (F : Form) (number start : ℕ) (line : List ℕ) (e : Place) → LineEnd F number start line e → Has e (ends_in F number start line)
line_to F number start line e h =
    let l = pairs_inside line F h.pair.0 e.column h.pair.1 in
    let g : e ≡ at number start (is_column F line) e.column =
    λ i. record { line = h.line i; column = e.column; position = h.position i } in
    subst (λ (x : Place). Has x (ends_in F number start line)) (sym g)
    (passing_to number start (is_column F line) 0 (suc (length line)) e.column (omega arith) (omega arith)
    (column_to F line h.pair.0 e.column h.pair.1))

some_from : (F : Form) (number start : ℕ) (rest : List (List ℕ)) (e : Place) → Has e (ends_from F number start rest) → SomeEnd F number start rest e
some_from F number start [] e h = absurd h
some_from F number start (line ∷ rest) e h =
    elim (has_cases e (ends_in F number start line) _ h) [
      | inl a ↦ inl (line_from F number start line e a)
      | inr b ↦ inr (some_from F (suc number) (start + suc (length line)) rest e b)
    ]

some_to : (F : Form) (number start : ℕ) (rest : List (List ℕ)) (e : Place) → SomeEnd F number start rest e → Has e (ends_from F number start rest)
some_to F number start [] e h = absurd h
some_to F number start (line ∷ rest) e (inl h) = has_left e (ends_in F number start line) _ (line_to F number start line e h)
some_to F number start (line ∷ rest) e (inr h) =
    has_right e (ends_in F number start line) _ (some_to F (suc number) (start + suc (length line)) rest e h)

line_bound : (F : Form) (number start : ℕ) (line : List ℕ) (e : Place) → LineEnd F number start line e
    → (start ≤ e.position) × (e.position < start + suc (length line))
line_bound F number start line e h =
    let l = pairs_inside line F h.pair.0 e.column h.pair.1 in
    let g : e.position ≡ start + e.column = h.position in
    (omega arith, omega arith)

some_low : (F : Form) (number start : ℕ) (rest : List (List ℕ)) (e : Place) → SomeEnd F number start rest e → start ≤ e.position
some_low F number start [] e h = absurd h
some_low F number start (line ∷ rest) e (inl h) = (line_bound F number start line e h).0
some_low F number start (line ∷ rest) e (inr h) = omega (arith, some_low F (suc number) (start + suc (length line)) rest e h)

some_rising : (F : Form) (number start : ℕ) (rest : List (List ℕ)) → Rising (ends_from F number start rest)
some_rising F number start [] = tt
some_rising F number start (line ∷ rest) =
    rising_append (ends_in F number start line) _ (passing_rising number start (is_column F line) 0 (suc (length line)))
    (some_rising F (suc number) (start + suc (length line)) rest) before
  where
    before : (x y : Place) → Has x (ends_in F number start line) → Has y (ends_from F (suc number) (start + suc (length line)) rest)
        → x.position < y.position
    before x y h k =
        let a = line_bound F number start line x (line_from F number start line x h) in
        let b = some_low F (suc number) (start + suc (length line)) rest y (some_from F (suc number) (start + suc (length line)) rest y k) in
        omega arith

-- the ends of a recording, computed
abbrev pub ends : Form → List ℕ → List Place
ends F recording = ends_from F 1 0 (lines recording)

pub are_ends : (recording : List ℕ) (F : Form) → Ends recording F (ends F recording)
are_ends recording F =
    record {
      rising = some_rising F 1 0 (lines recording);
      sound = λ e h. some_from F 1 0 (lines recording) e h;
      full = λ e h. some_to F 1 0 (lines recording) e h;
    }

pub ends_exist : EndsExist
ends_exist recording F = (ends F recording, are_ends recording F)

pub ends_unique : EndsUnique
ends_unique recording F es fs a b =
    rising_unique es fs a.rising b.rising (λ x h. b.full x (a.sound x h)) (λ x h. a.full x (b.sound x h))
