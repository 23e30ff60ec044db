-- What the program of a form needs. Assumes nothing.
use Rattle.std.proofs.Common.{◌≡◌, ℕ, zero, suc, ◌+◌, ◌-◌, ◌*◌, ◌<◌, ◌≤◌, max, Bool, true, false, cond, ◌&&◌, T, eqb, leb, List, [], ◌∷◌, ◌++◌, map, length, sym, refl, ap, ◌∙◌, subst, add-mul, arith, le→leb, eqb→eq, leb→le, length-append}
use Rattle.form.specs.Form.{Form, Forms, quote, set, out, seq, or, star, rep, start, end, nil, cons, weight, weights}
use Rattle.form.specs.Positions.{only}
use Rattle.theory.specs.Pattern.{Pattern, leaf, many, plus, eps, head, tail}
use Rattle.theory.specs.Pattern
use Rattle.theory.specs.Passes.{stars}
use Rattle.theory.specs.Written.{nothing, or_nothing, classes, all_classes, spelt, and_then, or_else, empty, stretch, loop, copies, up_to, pattern, in_order_of, one_of, written}
use Rattle.program.specs.Numbered.{leaves, Classed}
use Rattle.program.specs.Compile.{unions, unions_into, depth, depth_into}
use Rattle.program.specs.Sizes.{brackets, widest, carried, all_carried, Proper, AllProper, Some, FormClassed, FormRows, FormDepth, FormCarries}

-- ---- classes

classed_more : (F : Pattern) (m n : ℕ) → m ≤ n → Classed m F → Classed n F
classed_more (leaf c) m n l h = omega arith
classed_more (many c) m n l h = omega arith
classed_more (plus c) m n l h = omega arith
classed_more eps m n l h = tt
classed_more (Pattern.seq F G) m n l h = (classed_more F m n l h.0, classed_more G m n l h.1)
classed_more (Pattern.alt F G) m n l h = (classed_more F m n l h.0, classed_more G m n l h.1)
classed_more (Pattern.opt F) m n l h = classed_more F m n l h
classed_more (Pattern.star F) m n l h = classed_more F m n l h
classed_more head m n l h = tt
classed_more tail m n l h = tt

-- ---- stretched leaves

-- stretching changes no number
record Same (F G : Pattern) : Type 0 where
  pub stars : stars F ≡ stars G
  pub unions : unions F ≡ unions G
  pub unions_into : unions_into F ≡ unions_into G
  pub depth : depth F ≡ depth G
  pub depth_into : depth_into F ≡ depth_into G
  pub leaves : leaves F ≡ leaves G

same_refl : (F : Pattern) → Same F F
same_refl F = record { stars = refl; unions = refl; unions_into = refl; depth = refl; depth_into = refl; leaves = refl }

leaf_same : (b : Bool) (c : ℕ) → Same (cond b (plus c) (leaf c)) (leaf c)
leaf_same true c = record { stars = refl; unions = refl; unions_into = refl; depth = refl; depth_into = refl; leaves = refl }
leaf_same false c = same_refl (leaf c)

stretch_same : (b e : Bool) (F : Pattern) → Same (stretch b e F) F
stretch_same b e (leaf c) = leaf_same (b && e) c
stretch_same b e (many c) = same_refl (many c)
stretch_same b e (plus c) = same_refl (plus c)
stretch_same b e eps = same_refl eps
stretch_same b e (Pattern.seq F G) =
    let A = stretch_same b (e && empty G) F in
    let B = stretch_same (b && empty F) e G in
    record {
      stars = λ i. A.stars i + B.stars i;
      unions = λ i. A.unions i + B.unions i;
      unions_into = λ i. A.unions i + B.unions_into i;
      depth = λ i. max (A.depth i) (B.depth i);
      depth_into = λ i. max (A.depth i) (B.depth_into i);
      leaves = λ i. A.leaves i + B.leaves i;
    }
stretch_same b e (Pattern.alt F G) =
    let A = stretch_same b e F in
    let B = stretch_same b e G in
    record {
      stars = λ i. A.stars i + B.stars i;
      unions = λ i. suc (A.unions i + B.unions_into i);
      unions_into = λ i. A.unions_into i + B.unions_into i;
      depth = λ i. max (suc (A.depth i)) (B.depth_into i);
      depth_into = λ i. max (suc (A.depth_into i)) (B.depth_into i);
      leaves = λ i. A.leaves i + B.leaves i;
    }
stretch_same b e (Pattern.opt F) =
    let A = stretch_same b e F in
    record {
      stars = A.stars;
      unions = λ i. suc (A.unions_into i);
      unions_into = A.unions_into;
      depth = A.depth_into;
      depth_into = A.depth_into;
      leaves = A.leaves;
    }
stretch_same b e (Pattern.star F) = same_refl (Pattern.star F)
stretch_same b e head = same_refl head
stretch_same b e tail = same_refl tail

leaf_classed : (n : ℕ) (b : Bool) (c : ℕ) → c < n → Classed n (cond b (plus c) (leaf c))
leaf_classed n true c h = h
leaf_classed n false c h = h

stretch_classed : (n : ℕ) (b e : Bool) (F : Pattern) → Classed n F → Classed n (stretch b e F)
stretch_classed n b e (leaf c) h = leaf_classed n (b && e) c h
stretch_classed n b e (many c) h = h
stretch_classed n b e (plus c) h = h
stretch_classed n b e eps h = h
stretch_classed n b e (Pattern.seq F G) h = (stretch_classed n b (e && empty G) F h.0, stretch_classed n (b && empty F) e G h.1)
stretch_classed n b e (Pattern.alt F G) h = (stretch_classed n b e F h.0, stretch_classed n b e G h.1)
stretch_classed n b e (Pattern.opt F) h = stretch_classed n b e F h
stretch_classed n b e (Pattern.star F) h = h
stretch_classed n b e head h = h
stretch_classed n b e tail h = h

-- ---- the classes of stars and repeats

loop_classed : (n : ℕ) (F : Pattern) → Classed n F → Classed n (loop F)
loop_classed n (leaf c) h = h
loop_classed n (many c) h = h
loop_classed n (plus c) h = h
loop_classed n eps h = h
loop_classed n (Pattern.seq F G) h = stretch_classed n true true (Pattern.seq F G) h
loop_classed n (Pattern.alt F G) h = stretch_classed n true true (Pattern.alt F G) h
loop_classed n (Pattern.opt F) h = stretch_classed n true true (Pattern.opt F) h
loop_classed n (Pattern.star F) h = h
loop_classed n head h = h
loop_classed n tail h = h

copies_classed : (n m : ℕ) (F : Pattern) → ((i : ℕ) → i < m → Classed n F) → Classed n (copies m F)
copies_classed n zero F h = tt
copies_classed n (suc m) F h = (h 0 (omega arith), copies_classed n m F (λ i l. h i (omega arith)))

up_to_classed : (n d : ℕ) (F : Pattern) → ((i : ℕ) → i < d → Classed n F) → Classed n (up_to d F)
up_to_classed n zero F h = tt
up_to_classed n (suc d) F h = (h 0 (omega arith), up_to_classed n d F (λ i l. h i (omega arith)))

then_classed : (n : ℕ) (parts : Forms) (F G : Pattern) → Classed n F → Classed n G → Classed n (and_then parts F G)
then_classed n nil F G a b = a
then_classed n (cons part parts) F G a b = (a, b)

spelt_classed : (bytes : List ℕ) (c : ℕ) → Classed (c + length (map only bytes)) (spelt bytes c)
spelt_classed [] c = tt
spelt_classed (b ∷ []) c = omega arith
spelt_classed (b ∷ (d ∷ bytes)) c = (
  omega arith,
  subst (λ n. Classed n (spelt (d ∷ bytes) (suc c))) (omega arith) (spelt_classed (d ∷ bytes) (suc c)),
)

mutual
  pattern_classed : (F : Form) (c : ℕ) → Classed (c + length (classes F)) (pattern F c)
  pattern_classed (quote bytes) c = spelt_classed bytes c
  pattern_classed (set items) c = omega arith
  pattern_classed (out items) c = omega arith
  pattern_classed (seq parts) c = all_classed parts c
  pattern_classed (or parts) c = any_classed parts c
  pattern_classed (star part) c = loop_classed (c + length (classes part)) (pattern part c) (pattern_classed part c)
  pattern_classed (rep least most part) c = go (leb least most) (eqb most 0) refl refl
      (λ n l. classed_more (pattern part c) (c + length (classes part)) n l (pattern_classed part c))
    where
      go : (a b : Bool) → leb least most ≡ a → eqb most 0 ≡ b → ((n : ℕ) → c + length (classes part) ≤ n → Classed n (pattern part c))
          → Classed (c + length (cond a (cond b [] (classes part)) (nothing ∷ [])))
          (cond a (Pattern.seq (copies least (pattern part c)) (up_to (most - least) (pattern part c))) (leaf c))
      go true true e f h =
          let z : most ≡ 0 = eqb→eq most 0 (subst T (sym f) tt) in
          let y : least ≤ most = leb→le least most (subst T (sym e) tt) in (
            copies_classed (c + 0) least (pattern part c) (λ i l. absurd (omega arith)),
            up_to_classed (c + 0) (most - least) (pattern part c) (λ i l. absurd (omega arith)),
          )
      go true false e f h = (
        copies_classed (c + length (classes part)) least (pattern part c) (λ i l. h (c + length (classes part)) (omega arith)),
        up_to_classed (c + length (classes part)) (most - least) (pattern part c) (λ i l. h (c + length (classes part)) (omega arith)),
      )
      go false b e f h = omega arith
  pattern_classed start c = tt
  pattern_classed end c = tt

  all_classed : (parts : Forms) (c : ℕ) → Classed (c + length (all_classes parts)) (in_order_of parts c)
  all_classed nil c = tt
  all_classed (cons part parts) c =
      let n : ℕ = c + length (classes part ++ all_classes parts) in
      let l = length-append (classes part) (all_classes parts) in
      then_classed n parts (pattern part c) (in_order_of parts (c + length (classes part)))
      (classed_more (pattern part c) (c + length (classes part)) n (omega arith) (pattern_classed part c))
      (classed_more (in_order_of parts (c + length (classes part))) (c + length (classes part) + length (all_classes parts)) n (omega arith)
      (all_classed parts (c + length (classes part))))

  any_classed : (parts : Forms) (c : ℕ) → Classed (c + length (or_nothing parts (all_classes parts))) (one_of parts c)
  any_classed nil c = omega arith
  any_classed (cons part parts) c =
      else_classed parts (pattern part c) (c + length (classes part))
      (c + length (classes part ++ all_classes parts))
      (classed_more (pattern part c) (c + length (classes part)) (c + length (classes part ++ all_classes parts))
      (omega (arith, length-append (classes part) (all_classes parts))) (pattern_classed part c))
      (omega (arith, length-append (classes part) (all_classes parts)))
      (any_classed parts (c + length (classes part)))

  else_classed : (parts : Forms) (F : Pattern) (c n : ℕ) → Classed n F → c + length (all_classes parts) ≤ n
      → Classed (c + length (or_nothing parts (all_classes parts))) (one_of parts c) → Classed n (or_else parts F (one_of parts c))
  else_classed nil F c n a l b = a
  else_classed (cons part parts) F c n a l b = (a, classed_more (one_of (cons part parts) c) (c + length (all_classes (cons part parts))) n l b)

pub form_classed : FormClassed
form_classed F = classed_more (written F) (0 + length (classes F)) (length (classes F)) (omega arith) (pattern_classed F 0)

-- ---- rows

into_le : (F : Pattern) → unions_into F ≤ unions F
into_le (leaf c) = omega arith
into_le (many c) = omega arith
into_le (plus c) = omega arith
into_le eps = omega arith
into_le (Pattern.seq F G) = omega (arith, into_le G)
into_le (Pattern.alt F G) = omega (arith, into_le F)
into_le (Pattern.opt F) = omega arith
into_le (Pattern.star F) = omega arith
into_le head = omega arith
into_le tail = omega arith

-- the rows of its own that a pattern has
abbrev own : Pattern → ℕ
own F = stars F + unions F

loop_own : (F : Pattern) → own (loop F) ≤ suc (own F)
loop_own (leaf c) = omega arith
loop_own (many c) = omega arith
loop_own (plus c) = omega arith
loop_own eps = omega arith
loop_own (Pattern.seq F G) = omega (arith, (stretch_same true true (Pattern.seq F G)).stars, (stretch_same true true (Pattern.seq F G)).unions)
loop_own (Pattern.alt F G) = omega (arith, (stretch_same true true (Pattern.alt F G)).stars, (stretch_same true true (Pattern.alt F G)).unions)
loop_own (Pattern.opt F) = omega (arith, (stretch_same true true (Pattern.opt F)).stars, (stretch_same true true (Pattern.opt F)).unions)
loop_own (Pattern.star F) = omega arith
loop_own head = omega arith
loop_own tail = omega arith

copies_own : (m : ℕ) (F : Pattern) → own (copies m F) ≡ m * own F
copies_own zero F = omega arith
copies_own (suc m) F = omega (arith, copies_own m F)

options : (d : ℕ) (F : Pattern) → stars (up_to d F) + unions_into (up_to d F) ≡ d * own F
options zero F = omega arith
options (suc d) F = omega (arith, options d F)

up_to_own : (d : ℕ) (F : Pattern) → own (up_to d F) ≤ suc (d * own F)
up_to_own zero F = omega arith
up_to_own (suc d) F = omega (arith, options d F)

then_own : (parts : Forms) (F G : Pattern) → own (and_then parts F G) ≤ own F + own G
then_own nil F G = omega arith
then_own (cons part parts) F G = omega arith

-- a union's parts, behind its gathering row
abbrev inner : Pattern → ℕ
inner F = stars F + unions_into F

else_own : (parts : Forms) (F G : Pattern) → own (or_else parts F G) ≤ suc (own F + inner G)
else_own nil F G = omega arith
else_own (cons part parts) F G = omega arith

else_inner : (parts : Forms) (F G : Pattern) → inner (or_else parts F G) ≤ own F + inner G
else_inner nil F G = omega (arith, into_le F)
else_inner (cons part parts) F G = omega (arith, into_le F)

spelt_own : (bytes : List ℕ) (c : ℕ) → own (spelt bytes c) ≡ 0
spelt_own [] c = refl
spelt_own (b ∷ []) c = refl
spelt_own (b ∷ (d ∷ bytes)) c = omega (arith, spelt_own (d ∷ bytes) (suc c))

only-length : (bytes : List ℕ) → length (map only bytes) ≡ length bytes
only-length [] = refl
only-length (b ∷ bytes) = ap suc (only-length bytes)

-- q times what a part has, of which the classes count once
times : (q cl ow w : ℕ) → cl + ow ≤ w → 0 < q → cl + q * ow ≤ q * w
times zero cl ow w l h = absurd (omega arith)
times (suc zero) cl ow w l h = omega arith
times (suc (suc q)) cl ow w l h = omega (arith, times (suc q) cl ow w l (omega arith))

mutual
  pattern_rows : (F : Form) (c : ℕ) → length (classes F) + own (pattern F c) ≤ weight F
  pattern_rows (quote bytes) c = omega (arith, spelt_own bytes c, only-length bytes)
  pattern_rows (set items) c = omega arith
  pattern_rows (out items) c = omega arith
  pattern_rows (seq parts) c = omega (arith, all_rows parts c)
  pattern_rows (or parts) c = omega (arith, any_own parts c)
  pattern_rows (star part) c = omega (arith, pattern_rows part c, loop_own (pattern part c))
  pattern_rows (rep least most part) c = go (leb least most) (eqb most 0) refl refl (pattern_rows part c)
    where
      P : Pattern
      P = pattern part c

      cl : ℕ
      cl = length (classes part)

      two : least ≤ most → own (Pattern.seq (copies least P) (up_to (most - least) P)) ≤ suc (most * own P)
      two l =
          let e : least * own P + (most - least) * own P ≡ (least + (most - least)) * own P = sym (add-mul least (most - least) (own P)) in
          let f : least + (most - least) ≡ most = omega arith in
          let g : (least + (most - least)) * own P ≡ most * own P = ap (λ n. n * own P) f in
          omega (arith, copies_own least P, up_to_own (most - least) P)

      go : (a b : Bool) → leb least most ≡ a → eqb most 0 ≡ b → length (classes part) + own (pattern part c) ≤ weight part
          → length (cond a (cond b [] (classes part)) (nothing ∷ []))
          + own (cond a (Pattern.seq (copies least (pattern part c)) (up_to (most - least) (pattern part c))) (leaf c))
          ≤ 1 + most * weight part
      go true true e f h =
          let z : most ≡ 0 = eqb→eq most 0 (subst T (sym f) tt) in
          let y : most * own P ≡ 0 * own P = ap (λ n. n * own P) z in
          omega (arith, two (leb→le least most (subst T (sym e) tt)))
      go true false e f h =
          let z : 0 < most = above most f in
          omega (arith, two (leb→le least most (subst T (sym e) tt)), times most cl (own P) (weight part) h z)
        where
          above : (q : ℕ) → eqb q 0 ≡ false → 0 < q
          above zero g = absurd (subst T g tt)
          above (suc q) g = omega arith
      go false b e f h = omega arith
  pattern_rows start c = omega arith
  pattern_rows end c = omega arith

  all_rows : (parts : Forms) (c : ℕ) → length (all_classes parts) + own (in_order_of parts c) ≤ weights parts
  all_rows nil c = omega arith
  all_rows (cons part parts) c =
      omega (
        arith,
        length-append (classes part) (all_classes parts),
        pattern_rows part c,
        all_rows parts (c + length (classes part)),
        then_own parts (pattern part c) (in_order_of parts (c + length (classes part))),
      )

  any_own : (parts : Forms) (c : ℕ) → length (or_nothing parts (all_classes parts)) + own (one_of parts c) ≤ suc (weights parts)
  any_own nil c = omega arith
  any_own (cons part parts) c =
      omega (
        arith,
        length-append (classes part) (all_classes parts),
        pattern_rows part c,
        any_inner parts (c + length (classes part)),
        else_own parts (pattern part c) (one_of parts (c + length (classes part))),
      )

  any_inner : (parts : Forms) (c : ℕ) → length (all_classes parts) + inner (one_of parts c) ≤ weights parts
  any_inner nil c = omega arith
  any_inner (cons part parts) c =
      omega (
        arith,
        length-append (classes part) (all_classes parts),
        pattern_rows part c,
        any_inner parts (c + length (classes part)),
        else_inner parts (pattern part c) (one_of parts (c + length (classes part))),
      )

pub form_rows_lem : FormRows
form_rows_lem F = omega (arith, pattern_rows F 0)

-- ---- depth

into_deep : (F : Pattern) → depth_into F ≤ depth F
into_deep (leaf c) = omega arith
into_deep (many c) = omega arith
into_deep (plus c) = omega arith
into_deep eps = omega arith
into_deep (Pattern.seq F G) = omega (arith, into_deep G)
into_deep (Pattern.alt F G) = omega (arith, into_deep F)
into_deep (Pattern.opt F) = omega arith
into_deep (Pattern.star F) = omega arith
into_deep head = omega arith
into_deep tail = omega arith

loop_deep : (F : Pattern) → depth (loop F) ≡ depth F
loop_deep (leaf c) = refl
loop_deep (many c) = refl
loop_deep (plus c) = refl
loop_deep eps = refl
loop_deep (Pattern.seq F G) = (stretch_same true true (Pattern.seq F G)).depth
loop_deep (Pattern.alt F G) = (stretch_same true true (Pattern.alt F G)).depth
loop_deep (Pattern.opt F) = (stretch_same true true (Pattern.opt F)).depth
loop_deep (Pattern.star F) = refl
loop_deep head = refl
loop_deep tail = refl

copies_deep : (m : ℕ) (F : Pattern) → depth (copies m F) ≤ depth F
copies_deep zero F = omega arith
copies_deep (suc m) F = omega (arith, copies_deep m F)

up_to_deep : (d : ℕ) (F : Pattern) → depth (up_to d F) ≤ depth F
up_to_deep zero F = omega arith
up_to_deep (suc d) F = omega (arith, up_to_deep d F, into_deep (up_to d F))

then_deep : (parts : Forms) (F G : Pattern) → depth (and_then parts F G) ≤ max (depth F) (depth G)
then_deep nil F G = omega arith
then_deep (cons part parts) F G = omega arith

else_deep : (parts : Forms) (F G : Pattern) → depth (or_else parts F G) ≤ max (suc (depth F)) (depth_into G)
else_deep nil F G = omega arith
else_deep (cons part parts) F G = omega arith

else_into : (parts : Forms) (F G : Pattern) → depth_into (or_else parts F G) ≤ max (suc (depth F)) (depth_into G)
else_into nil F G = omega (arith, into_deep F)
else_into (cons part parts) F G = omega (arith, into_deep F)

spelt_deep : (bytes : List ℕ) (c : ℕ) → depth (spelt bytes c) ≡ 0
spelt_deep [] c = refl
spelt_deep (b ∷ []) c = refl
spelt_deep (b ∷ (d ∷ bytes)) c = omega (arith, spelt_deep (d ∷ bytes) (suc c))

mutual
  pattern_deep : (F : Form) (c : ℕ) → depth (pattern F c) ≤ brackets F
  pattern_deep (quote bytes) c = omega (arith, spelt_deep bytes c)
  pattern_deep (set items) c = omega arith
  pattern_deep (out items) c = omega arith
  pattern_deep (seq parts) c = omega (arith, all_deep parts c)
  pattern_deep (or parts) c = any_deep parts c
  pattern_deep (star part) c = omega (arith, pattern_deep part c, loop_deep (pattern part c))
  pattern_deep (rep least most part) c = go (leb least most) (pattern_deep part c)
    where
      go : (a : Bool) → depth (pattern part c) ≤ brackets part
          → depth (cond a (Pattern.seq (copies least (pattern part c)) (up_to (most - least) (pattern part c))) (leaf c)) ≤ suc (brackets part)
      go true h = omega (arith, copies_deep least (pattern part c), up_to_deep (most - least) (pattern part c))
      go false h = omega arith
  pattern_deep start c = omega arith
  pattern_deep end c = omega arith

  all_deep : (parts : Forms) (c : ℕ) → depth (in_order_of parts c) ≤ widest parts
  all_deep nil c = omega arith
  all_deep (cons part parts) c =
      omega (
        arith,
        pattern_deep part c,
        all_deep parts (c + length (classes part)),
        then_deep parts (pattern part c) (in_order_of parts (c + length (classes part))),
      )

  any_deep : (parts : Forms) (c : ℕ) → depth (one_of parts c) ≤ suc (widest parts)
  any_deep nil c = omega arith
  any_deep (cons part parts) c =
      omega (
        arith,
        pattern_deep part c,
        any_into parts (c + length (classes part)),
        else_deep parts (pattern part c) (one_of parts (c + length (classes part))),
      )

  any_into : (parts : Forms) (c : ℕ) → depth_into (one_of parts c) ≤ suc (widest parts)
  any_into nil c = omega arith
  any_into (cons part parts) c =
      omega (
        arith,
        pattern_deep part c,
        any_into parts (c + length (classes part)),
        else_into parts (pattern part c) (one_of parts (c + length (classes part))),
      )

pub form_depth : FormDepth
form_depth F = pattern_deep F 0

-- ---- carries

loop_leaves : (F : Pattern) → leaves (loop F) ≡ leaves F
loop_leaves (leaf c) = refl
loop_leaves (many c) = refl
loop_leaves (plus c) = refl
loop_leaves eps = refl
loop_leaves (Pattern.seq F G) = (stretch_same true true (Pattern.seq F G)).leaves
loop_leaves (Pattern.alt F G) = (stretch_same true true (Pattern.alt F G)).leaves
loop_leaves (Pattern.opt F) = (stretch_same true true (Pattern.opt F)).leaves
loop_leaves (Pattern.star F) = refl
loop_leaves head = refl
loop_leaves tail = refl

copies_leaves : (m : ℕ) (F : Pattern) → leaves (copies m F) ≡ m * leaves F
copies_leaves zero F = omega arith
copies_leaves (suc m) F = omega (arith, copies_leaves m F)

up_to_leaves : (d : ℕ) (F : Pattern) → leaves (up_to d F) ≡ d * leaves F
up_to_leaves zero F = omega arith
up_to_leaves (suc d) F = omega (arith, up_to_leaves d F)

spelt_leaves : (bytes : List ℕ) (c : ℕ) → leaves (spelt bytes c) ≡ length bytes
spelt_leaves [] c = refl
spelt_leaves (b ∷ []) c = refl
spelt_leaves (b ∷ (d ∷ bytes)) c = omega (arith, spelt_leaves (d ∷ bytes) (suc c))

mutual
  pattern_leaves : (F : Form) (c : ℕ) → Proper F → leaves (pattern F c) ≡ carried F
  pattern_leaves (quote bytes) c h = spelt_leaves bytes c
  pattern_leaves (set items) c h = refl
  pattern_leaves (out items) c h = refl
  pattern_leaves (seq parts) c h = all_leaves parts c h
  pattern_leaves (or parts) c h = any_leaves parts c h.0 h.1
  pattern_leaves (star part) c h = loop_leaves (pattern part c) ∙ pattern_leaves part c h
  pattern_leaves (rep least most part) c h = go (leb least most) refl (pattern_leaves part c h.1)
    where
      go : (a : Bool) → leb least most ≡ a → leaves (pattern part c) ≡ carried part
          → leaves (cond a (Pattern.seq (copies least (pattern part c)) (up_to (most - least) (pattern part c))) (leaf c)) ≡ most * carried part
      go true e f =
          let n : ℕ = leaves (pattern part c) in
          let g : (least + (most - least)) * n ≡ most * n = ap (λ q. q * n) (omega arith) in
          omega (arith, copies_leaves least (pattern part c), up_to_leaves (most - least) (pattern part c), add-mul least (most - least) n)
          ∙ ap (λ q. most * q) f
      go false e f = absurd (subst T e (le→leb least most h.0))
  pattern_leaves start c h = refl
  pattern_leaves end c h = refl

  all_leaves : (parts : Forms) (c : ℕ) → AllProper parts → leaves (in_order_of parts c) ≡ all_carried parts
  all_leaves nil c h = refl
  all_leaves (cons part parts) c h =
      then_count parts (pattern part c) (c + length (classes part)) (carried part) (pattern_leaves part c h.0)
      (all_leaves parts (c + length (classes part)) h.1)

  then_count : (parts : Forms) (F : Pattern) (c n : ℕ) → leaves F ≡ n → leaves (in_order_of parts c) ≡ all_carried parts
      → leaves (and_then parts F (in_order_of parts c)) ≡ n + all_carried parts
  then_count nil F c n e f = omega arith
  then_count (cons part parts) F c n e f = omega arith

  any_leaves : (parts : Forms) (c : ℕ) → Some parts → AllProper parts → leaves (one_of parts c) ≡ all_carried parts
  any_leaves nil c s h = absurd s
  any_leaves (cons part parts) c s h =
      else_count parts (pattern part c) (c + length (classes part)) (carried part) (pattern_leaves part c h.0)
      (λ z. any_leaves parts (c + length (classes part)) z h.1)

  else_count : (parts : Forms) (F : Pattern) (c n : ℕ) → leaves F ≡ n → (Some parts → leaves (one_of parts c) ≡ all_carried parts)
      → leaves (or_else parts F (one_of parts c)) ≡ n + all_carried parts
  else_count nil F c n e f = omega arith
  else_count (cons part parts) F c n e f = omega (arith, f tt)

pub form_carries : FormCarries
form_carries F h = pattern_leaves F 0 h
