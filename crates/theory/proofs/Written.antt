-- A form matches where its pattern does. Assumes nothing.
use mathlib.Core.Path.{◌≡◌, refl, sym, subst, ap, ◌∙◌}
use mathlib.Core.Bool.{Bool, true, false, cond}
use mathlib.Core.List.{List, [], ◌∷◌, ◌++◌, map}
use mathlib.Core.Logic.{◌⊎◌, inl, inr}
use Prim.Native.Nat.{ℕ, zero, suc, ◌+◌, ◌-◌, ◌≤◌}
use native.Mathlib.Omega.{arith}
use lib.Dec.{T, leb, eqb, leb→le, le→leb, eqb→eq}
use lib.ListN.{length, get_or}
use lib.Seq.{get_or-append-add}
use Rattle.form.specs.Form.{Form, Forms, quote, set, out, seq, or, star, rep, start, end, nil, cons}
use Rattle.form.specs.Meaning.{feed, inside, outside, Joins}
use Rattle.form.specs.Positions.{opens, Step, only, Spells, Matches, MatchAll, MatchAny}
use Rattle.theory.specs.Pattern.{Pattern, Streams, leaf}
use Rattle.theory.specs.Pattern
use Rattle.theory.specs.Written.{nothing, or_nothing, classes, all_classes, spelt, and_then, or_else, copies, up_to, pattern, in_order_of, one_of, streams, written, WrittenMatches, WrittenBlocks}
use Rattle.theory.proofs.Repeats.{steps_joins, joins_steps, joins_map, loop_to, loop_from, rep_from, rep_to}
use Rattle.theory.proofs.Whole.{many_blocks}

-- the table S has these classes from the number c on
abbrev Lies : (ℕ → ℕ → Bool) → ℕ → List (ℕ → Bool) → Type 0
Lies S c [] = Unit {0}
Lies S c (class ∷ list) = (S c ≡ class) × Lies S (suc c) list

lies_left : (S : ℕ → ℕ → Bool) (c : ℕ) (xs ys : List (ℕ → Bool)) → Lies S c (xs ++ ys) → Lies S c xs
lies_left S c [] ys h = tt
lies_left S c (x ∷ xs) ys h = (h.0, lies_left S (suc c) xs ys h.1)

lies_right : (S : ℕ → ℕ → Bool) (c : ℕ) (xs ys : List (ℕ → Bool)) → Lies S c (xs ++ ys) → Lies S (c + length xs) ys
lies_right S c [] ys h = subst (λ z. Lies S z ys) (omega arith) h
lies_right S c (x ∷ xs) ys h =
    let e : suc c + length xs ≡ c + suc (length xs) = omega arith in
    subst (λ z. Lies S z ys) e (lies_right S (suc c) xs ys h.1)

-- a list as a table
lies_all : (before list : List (ℕ → Bool)) → Lies (λ c. get_or (before ++ list) c nothing) (length before) list
lies_all before [] = tt
lies_all before (x ∷ list) = (
  ap (λ n. get_or (before ++ (x ∷ list)) n nothing) (omega arith) ∙ get_or-append-add before (x ∷ list) 0 nothing,
  subst (λ (z : List (ℕ → Bool)). Lies (λ c. get_or z c nothing) (suc (length before)) list) (assoc before)
      (subst (λ n. Lies (λ c. get_or ((before ++ (x ∷ [])) ++ list) c nothing) n list) (long before) (lies_all (before ++ (x ∷ [])) list)),
)
  where
    assoc : (b : List (ℕ → Bool)) → (b ++ (x ∷ [])) ++ list ≡ b ++ (x ∷ list)
    assoc [] = refl
    assoc (y ∷ b) = ap (λ (z : List (ℕ → Bool)). y ∷ z) (assoc b)

    long : (b : List (ℕ → Bool)) → length (b ++ (x ∷ [])) ≡ suc (length b)
    long [] = refl
    long (y ∷ b) = ap suc (long b)

module _ (S : ℕ → ℕ → Bool) (t : ℕ → ℕ) where
  abbrev x : Streams
  x = record { class = λ c p. S c (t p); starts = opens t; feeds = λ p. eqb (t p) feed }

  -- the pattern's matches, and steps of a leaf
  abbrev M : Pattern → ℕ → ℕ → Type 0
  M F s p = Pattern.Matches x F s p

  leaf_to : (class : ℕ → Bool) (c s p : ℕ) → S c ≡ class → Step t class s p → M (leaf c) s p
  leaf_to class c s p e h = (h.0, subst (λ (f : ℕ → Bool). T (f (t s))) (sym e) h.1)

  leaf_from : (class : ℕ → Bool) (c s p : ℕ) → S c ≡ class → M (leaf c) s p → Step t class s p
  leaf_from class c s p e h = (h.0, subst (λ (f : ℕ → Bool). T (f (t s))) e h.1)

  never : (c s p : ℕ) → S c ≡ nothing → M (leaf c) s p → ⊥
  never c s p e h = (leaf_from nothing c s p e h).1

  spelt_to : (bytes : List ℕ) (c s p : ℕ) → Lies S c (map only bytes) → Spells t bytes s p → M (spelt bytes c) s p
  spelt_to [] c s p l h = h
  spelt_to (b ∷ []) c s p l h = subst (M (leaf c) s) h.2 (leaf_to (only b) c s h.0 l.0 h.1)
  spelt_to (b ∷ (d ∷ bytes)) c s p l h =
      (h.0, leaf_to (only b) c s h.0 l.0 h.1, spelt_to (d ∷ bytes) (suc c) h.0 p l.1 h.2)

  spelt_from : (bytes : List ℕ) (c s p : ℕ) → Lies S c (map only bytes) → M (spelt bytes c) s p → Spells t bytes s p
  spelt_from [] c s p l h = h
  spelt_from (b ∷ []) c s p l h = (p, leaf_from (only b) c s p l.0 h, refl)
  spelt_from (b ∷ (d ∷ bytes)) c s p l h =
      (h.0, leaf_from (only b) c s h.0 l.0 h.1, spelt_from (d ∷ bytes) (suc c) h.0 p l.1 h.2)

  -- a repeat, by whether it can be and whether it is of no copy; what its copies match is known where there is one
  abbrev Same : (ℕ → ℕ → Type 0) → (ℕ → ℕ → Type 0) → Type 0
  Same R Q = (s p : ℕ) → R s p → Q s p

  rep_classes : (least most : ℕ) (list : List (ℕ → Bool)) (c : ℕ) → Lies S c (cond (leb least most) (cond (eqb most 0) [] list) (nothing ∷ []))
      → (k : ℕ) → least ≤ suc k → suc k ≤ most → Lies S c list
  rep_classes least most list c l k low high = go (leb least most) (eqb most 0) refl refl l
    where
      go : (a b : Bool) → leb least most ≡ a → eqb most 0 ≡ b → Lies S c (cond a (cond b [] list) (nothing ∷ [])) → Lies S c list
      go true true e f h =
          let z : most ≡ 0 = eqb→eq most 0 (subst T (sym f) tt) in absurd (omega arith)
      go true false e f h = h
      go false b e f h = absurd (subst T e (le→leb least most (omega arith)))

  joins_some : (R Q : ℕ → ℕ → Type 0) (k s p : ℕ) → ((j : ℕ) → k ≡ suc j → Same R Q) → Joins R k s p → Joins Q k s p
  joins_some R Q zero s p f h = h
  joins_some R Q (suc k) s p f h = joins_map R Q (f k refl) (suc k) s p h

  repeated_to : (least most c s p : ℕ) (P : Pattern) (k : ℕ) → least ≤ k → k ≤ most
      → Joins (M P) k s p → M (cond (leb least most) (Pattern.seq (copies least P) (up_to (most - least) P)) (leaf c)) s p
  repeated_to least most c s p P k low high h = go (leb least most) refl
    where
      go : (a : Bool) → leb least most ≡ a → M (cond a (Pattern.seq (copies least P) (up_to (most - least) P)) (leaf c)) s p
      go true e = rep_to x P least most s p (k, low, high, h)
      go false e = absurd (subst T e (le→leb least most (omega arith)))

  repeated_from : (least most c s p : ℕ) (P : Pattern) (list : List (ℕ → Bool))
      → Lies S c (cond (leb least most) (cond (eqb most 0) [] list) (nothing ∷ []))
      → M (cond (leb least most) (Pattern.seq (copies least P) (up_to (most - least) P)) (leaf c)) s p
      → (k : ℕ) × (least ≤ k) × (k ≤ most) × Joins (M P) k s p
  repeated_from least most c s p P list l h = go (leb least most) refl l h
    where
      go : (a : Bool) → leb least most ≡ a → Lies S c (cond a (cond (eqb most 0) [] list) (nothing ∷ []))
          → M (cond a (Pattern.seq (copies least P) (up_to (most - least) P)) (leaf c)) s p
          → (k : ℕ) × (least ≤ k) × (k ≤ most) × Joins (M P) k s p
      go true e i m = rep_from x P least most s p (leb→le least most (subst T (sym e) tt)) m
      go false e i m = absurd (never c s p i.0 m)

  then_to : (parts : Forms) (F G : Pattern) (s q p : ℕ) → M F s q → MatchAll t parts q p
      → ((s p : ℕ) → MatchAll t parts s p → M G s p) → M (and_then parts F G) s p
  then_to nil F G s q p a b f = subst (M F s) b a
  then_to (cons part parts) F G s q p a b f = (q, a, f q p b)

  then_from : (parts : Forms) (F G : Pattern) (s p : ℕ) → ((s p : ℕ) → M G s p → MatchAll t parts s p)
      → M (and_then parts F G) s p → (q : ℕ) × M F s q × MatchAll t parts q p
  then_from nil F G s p f h = (p, h, refl)
  then_from (cons part parts) F G s p f h = (h.0, h.1, f h.0 p h.2)

  else_left : (parts : Forms) (F G : Pattern) (s p : ℕ) → M F s p → M (or_else parts F G) s p
  else_left nil F G s p h = h
  else_left (cons part parts) F G s p h = inl h

  else_right : (parts : Forms) (F G : Pattern) (s p : ℕ) → MatchAny t parts s p → M G s p → M (or_else parts F G) s p
  else_right nil F G s p a h = absurd a
  else_right (cons part parts) F G s p a h = inr h

  else_from : (parts : Forms) (c : ℕ) (F G : Pattern) (s p : ℕ) → Lies S c (all_classes parts)
      → (Lies S c (or_nothing parts (all_classes parts)) → M G s p → MatchAny t parts s p) → M (or_else parts F G) s p
      → M F s p ⊎ MatchAny t parts s p
  else_from nil c F G s p l f h = inl h
  else_from (cons part parts) c F G s p l f (inl h) = inl h
  else_from (cons part parts) c F G s p l f (inr h) = inr (f l h)

  mutual
    to : (F : Form) (c : ℕ) → Lies S c (classes F) → (s p : ℕ) → Matches t F s p → M (pattern F c) s p
    to (quote bytes) c l s p h = spelt_to bytes c s p l h
    to (set items) c l s p h = leaf_to (inside items) c s p l.0 h
    to (out items) c l s p h = leaf_to (outside items) c s p l.0 h
    to (seq parts) c l s p h = all_to parts c l s p h
    to (or parts) c l s p h = any_to parts c (some parts l h) s p h
      where
        some : (parts : Forms) → Lies S c (or_nothing parts (all_classes parts)) → MatchAny t parts s p → Lies S c (all_classes parts)
        some nil i m = absurd m
        some (cons part parts) i m = i
    to (star part) c l s p h =
        loop_to x (pattern part c) s p
        (joins_steps (M (pattern part c)) h.0 s p (joins_map (Matches t part) (M (pattern part c)) (to part c l) h.0 s p h.1))
    to (rep least most part) c l s p h =
        repeated_to least most c s p (pattern part c) h.0 h.1 h.2
        (joins_some (Matches t part) (M (pattern part c)) h.0 s p
        (λ j e. to part c (rep_classes least most (classes part) c l j (omega arith) (omega arith))) h.3)
    to start c l s p h = h
    to end c l s p h = h

    all_to : (parts : Forms) (c : ℕ) → Lies S c (all_classes parts) → (s p : ℕ) → MatchAll t parts s p → M (in_order_of parts c) s p
    all_to nil c l s p h = h
    all_to (cons part parts) c l s p h =
        then_to parts (pattern part c) (in_order_of parts (c + length (classes part))) s h.0 p
        (to part c (lies_left S c (classes part) (all_classes parts) l) s h.0 h.1) h.2
        (all_to parts (c + length (classes part)) (lies_right S c (classes part) (all_classes parts) l))

    any_to : (parts : Forms) (c : ℕ) → Lies S c (all_classes parts) → (s p : ℕ) → MatchAny t parts s p → M (one_of parts c) s p
    any_to nil c l s p h = absurd h
    any_to (cons part parts) c l s p (inl h) =
        else_left parts (pattern part c) (one_of parts (c + length (classes part))) s p
        (to part c (lies_left S c (classes part) (all_classes parts) l) s p h)
    any_to (cons part parts) c l s p (inr h) =
        else_right parts (pattern part c) (one_of parts (c + length (classes part))) s p h
        (any_to parts (c + length (classes part)) (lies_right S c (classes part) (all_classes parts) l) s p h)

  mutual
    from : (F : Form) (c : ℕ) → Lies S c (classes F) → (s p : ℕ) → M (pattern F c) s p → Matches t F s p
    from (quote bytes) c l s p h = spelt_from bytes c s p l h
    from (set items) c l s p h = leaf_from (inside items) c s p l.0 h
    from (out items) c l s p h = leaf_from (outside items) c s p l.0 h
    from (seq parts) c l s p h = all_from parts c l s p h
    from (or parts) c l s p h = any_from parts c l s p h
    from (star part) c l s p h =
        let y = steps_joins (M (pattern part c)) (loop_from x (pattern part c) s p h) in
        (y.0, joins_map (M (pattern part c)) (Matches t part) (from part c l) y.0 s p y.1)
    from (rep least most part) c l s p h =
        let y = repeated_from least most c s p (pattern part c) (classes part) l h in (
          y.0,
          y.1,
          y.2,
          joins_some (M (pattern part c)) (Matches t part) y.0 s p
              (λ j e. from part c (rep_classes least most (classes part) c l j (omega arith) (omega arith))) y.3,
        )
    from start c l s p h = h
    from end c l s p h = h

    all_from : (parts : Forms) (c : ℕ) → Lies S c (all_classes parts) → (s p : ℕ) → M (in_order_of parts c) s p → MatchAll t parts s p
    all_from nil c l s p h = h
    all_from (cons part parts) c l s p h =
        let y =
        then_from parts (pattern part c) (in_order_of parts (c + length (classes part))) s p
        (all_from parts (c + length (classes part)) (lies_right S c (classes part) (all_classes parts) l)) h in
        (y.0, from part c (lies_left S c (classes part) (all_classes parts) l) s y.0 y.1, y.2)

    any_from : (parts : Forms) (c : ℕ) → Lies S c (or_nothing parts (all_classes parts)) → (s p : ℕ) → M (one_of parts c) s p → MatchAny t parts s p
    any_from nil c l s p h = absurd (never c s p l.0 h)
    any_from (cons part parts) c l s p h =
        elim (else_from parts (c + length (classes part)) (pattern part c) (one_of parts (c + length (classes part))) s p
        (lies_right S c (classes part) (all_classes parts) l)
        (λ i. any_from parts (c + length (classes part)) i s p) h)
        [ inl a ↦ inl (from part c (lies_left S c (classes part) (all_classes parts) l) s p a) | inr b ↦ inr b ]

pub written_matches : WrittenMatches
written_matches F t s p = (
  to (λ c. get_or (classes F) c nothing) t F 0 (lies_all [] (classes F)) s p,
  from (λ c. get_or (classes F) c nothing) t F 0 (lies_all [] (classes F)) s p,
)

pub written_blocks : WrittenBlocks
written_blocks F t W w n blocks settled p l =
    let m = many_blocks (streams F t) W w (written F) n blocks settled p l in (
      λ h. let y = m.0 h in (y.0, (written_matches F t y.0 p).1 y.1),
      λ h. m.1 (h.0, (written_matches F t h.0 p).0 h.1),
    )
