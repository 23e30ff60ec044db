-- What a walk over a form's nodes writes, from what it writes of the parts. Assumes nothing.
use Rattle.std.proofs.Common.{◌≡◌, ℕ, zero, suc, ◌+◌, ◌-◌, ◌<◌, ◌≤◌, Bool, true, false, cond, ◌&&◌, ◌||◌, eqb, leb, List, [], ◌∷◌, length, drop, Some, None, Option, sym, refl, ap, ◌∙◌, subst, ⊎_elim, append-nil, arith, length-append}
use mathlib.Core.Bool.{and-true}
use Rattle.std.proofs.Math.Bool.{and-false}
use Rattle.std.proofs.lemmas.List.{length-map}
use Rattle.std.proofs.lemmas.Bool.{cases_eq, le-leb, eq-eqb, ne_eqb}
use Rattle.form.specs.Form.{Form, Forms, quote, set, out, seq, or, star, rep, start, end, nil, cons}
use Rattle.form.specs.Positions.{only}
use Rattle.theory.specs.Pattern.{Pattern, leaf, many, plus, eps, head, tail}
use Rattle.theory.specs.Written.{nothing, or_nothing, classes, all_classes, spelt, empty, stretch, loop, copies, up_to, pattern, in_order_of, one_of}
use Rattle.program.specs.declared.Step.TheVariants.{Save, Load, Or, Grow}
use Rattle.tree.specs.declared.node.Node.{Node}
use Rattle.tree.specs.declared.node.Node.TheVariants as node
use Rattle.tree.specs.declared.store.Tree.{Tree}
use Rattle.tree.specs.Stands.{StandAll, Stands}
use Rattle.tree.proofs.Shapes.{Shape, a_quote, a_set, an_out, a_seq, an_or, a_star, a_rep, a_start, an_end, Row, no_form, a_form}
use Rattle.emit.specs.Coding.{steps_of, top, Does, Writes}
use Rattle.emit.specs.Walking.{is_leaf, is_nil, Walks}
use Rattle.emit.specs.declared.code.Code.{Code}
use Rattle.emit.specs.declared.place.Place.{Place}
use Rattle.emit.proofs.Joining.{seq_writes, alt_on, alt_into, opt_on, opt_into, star_writes, stays, both}
use Rattle.emit.proofs.Shaped.{quote_long, spelt_empty, copies_empty, up_to_empty}

-- ---- stretching

pub stretch_none : (l : Bool) (P : Pattern) → stretch false l P ≡ P
stretch_none l (leaf c) = refl
stretch_none l (many c) = refl
stretch_none l (plus c) = refl
stretch_none l eps = refl
stretch_none l (Pattern.seq F G) = λ i. Pattern.seq (stretch_none (l && empty G) F i) (stretch_none l G i)
stretch_none l (Pattern.alt F G) = λ i. Pattern.alt (stretch_none l F i) (stretch_none l G i)
stretch_none l (Pattern.opt F) = λ i. Pattern.opt (stretch_none l F i)
stretch_none l (Pattern.star F) = refl
stretch_none l head = refl
stretch_none l tail = refl

-- ---- quotes

-- of several bytes none is stretched
spelt_more : (f l : Bool) (b e : ℕ) (bs : List ℕ) (c : ℕ) → stretch f l (spelt (b ∷ (e ∷ bs)) c) ≡ Pattern.seq (leaf c) (stretch false false (spelt (e ∷ bs) (suc c)))
spelt_more f l b e bs c =
    let G : Pattern = spelt (e ∷ bs) (suc c) in
    let no : empty G ≡ false = spelt_empty (e ∷ bs) (suc c) ∙ ne_eqb (length (e ∷ bs)) 0 (λ z. omega arith) in
    let one : (f && (l && empty G)) ≡ false = ap (λ v. f && (l && v)) no ∙ ap (λ v. f && v) (and-false l) ∙ and-false f in
    (λ i. Pattern.seq (cond (one i) (plus c) (leaf c)) (stretch (and-false f i) l G)) ∙ ap (λ P. Pattern.seq (leaf c) P) (stretch_none l G ∙ sym (stretch_none false G))

-- what is left from the byte k on, which is not the last, or is
spelt_step : (bs : List ℕ) (k n : ℕ) → suc k < length bs → spelt (drop k bs) n ≡ Pattern.seq (leaf n) (spelt (drop (suc k) bs) (suc n))
spelt_step [] k n h = absurd (omega arith)
spelt_step (b ∷ []) k n h = absurd (omega arith)
spelt_step (b ∷ (e ∷ bs)) zero n h = refl
spelt_step (b ∷ (e ∷ bs)) (suc k) n h = spelt_step (e ∷ bs) k n (omega arith)

spelt_last : (bs : List ℕ) (k n : ℕ) → suc k ≡ length bs → spelt (drop k bs) n ≡ leaf n
spelt_last [] k n h = absurd (omega arith)
spelt_last (b ∷ []) zero n h = refl
spelt_last (b ∷ []) (suc k) n h = absurd (omega arith)
spelt_last (b ∷ (e ∷ bs)) zero n h = absurd (omega arith)
spelt_last (b ∷ (e ∷ bs)) (suc k) n h = spelt_last (e ∷ bs) k n (omega arith)

stretch_more : (f l : Bool) (bs : List ℕ) (c : ℕ) → 1 < length bs → stretch f l (spelt bs c) ≡ spelt bs c
stretch_more f l [] c h = absurd (omega arith)
stretch_more f l (b ∷ []) c h = absurd (omega arith)
stretch_more f l (b ∷ (e ∷ bs)) c h = spelt_more f l b e bs c ∙ ap (λ P. Pattern.seq (leaf c) P) (stretch_none false (spelt (e ∷ bs) (suc c)))

module _ (m : Option ℕ) (d : ℕ) where
  -- a byte that others follow
  pub quote_step : (x y z : Code) (bs : List ℕ) (k k' n n' : ℕ) → k' ≡ suc k → n' ≡ suc n → k' < length bs → Writes None d (leaf n) x y → Writes m d (spelt (drop k' bs) n') y z → Writes m d (spelt (drop k bs) n) x z
  quote_step x y z bs k k' n n' p q h v w =
      subst (λ P. Writes m d P x z) (sym (spelt_step bs k n (omega arith)))
      (seq_writes m d (leaf n) (spelt (drop (suc k) bs) (suc n)) x y z v (subst (λ a. Writes m d (spelt (drop a bs) (suc n)) y z) p (subst (λ b. Writes m d (spelt (drop k' bs) b) y z) q w)))

  -- the last byte, which may be stretched where it is the only one
  pub quote_end : (c n k : ℕ) (f l s : Bool) (bs : List ℕ) (x y z : Code) → suc k ≡ length bs → n ≡ c + k → s ≡ ((f && l) && eqb k 0) → (k ≡ 0 → y ≡ x)
      → (Writes m d (spelt (drop k bs) n) y z → Writes m d (spelt bs c) x z) → Writes m d (cond s (plus n) (leaf n)) y z → Writes m d (stretch f l (spelt bs c)) x z
  quote_end c n zero f l s (b ∷ []) x y z h at is same k w =
      let here : n ≡ c = omega arith in
      let alone : s ≡ (f && l) = is ∙ and-true (f && l) in
      subst (λ v. Writes m d (cond (f && l) (plus v) (leaf v)) x z) here (subst (λ u. Writes m d (cond (f && l) (plus n) (leaf n)) u z) (same refl) (subst (λ b. Writes m d (cond b (plus n) (leaf n)) y z) alone w))
  quote_end c n zero f l s [] x y z h at is same k w = absurd (omega arith)
  quote_end c n zero f l s (b ∷ (e ∷ bs)) x y z h at is same k w = absurd (omega arith)
  quote_end c n (suc j) f l s bs x y z h at is same k w =
      let no : s ≡ false = is ∙ ap (λ b. (f && l) && b) (ne_eqb (suc j) 0 (λ e. omega arith)) ∙ and-false (f && l) in
      subst (λ P. Writes m d P x z) (sym (stretch_more f l bs c (omega arith)))
      (k (subst (λ P. Writes m d P y z) (sym (spelt_last bs (suc j) n h)) (subst (λ b. Writes m d (cond b (plus n) (leaf n)) y z) no w)))

-- ---- forms

module _ (c r : ℕ) (place : Place) (x y : Code) where
  pub quote_walks : {t : Tree} {f : Form} (a e n : ℕ) (s : Bool) → Shape t f (node.Quote a e) → n ≡ e - a → s ≡ (place.first && place.last)
      → ((bs : List ℕ) (f l : Bool) (d : ℕ) → length bs ≡ n → s ≡ (f && l) → c + n ≤ top → (r ≡ c + n) × Writes place.into d (stretch f l (spelt bs c)) x y)
      → Walks c (length (classes f)) r place (pattern f c) x y
  quote_walks {t} a e n s (a_quote {bytes = bs} p) is st k few =
      let l = length-map bs only in
      let m = quote_long t a e bs p in
      let w = k bs place.first place.last place.depth (omega arith) st (omega arith) in
      (w.0 ∙ omega arith, w.1)

  pub set_walks : {t : Tree} {f : Form} (a e : ℕ) → Shape t f (node.Set a e) → Walks c 1 r place (leaf c) x y → Walks c (length (classes f)) r place (pattern f c) x y
  set_walks a e (a_set p) w = w

  pub out_walks : {t : Tree} {f : Form} (a e : ℕ) → Shape t f (node.Out a e) → Walks c 1 r place (leaf c) x y → Walks c (length (classes f)) r place (pattern f c) x y
  out_walks a e (an_out p) w = w

  pub seq_walks : {t : Tree} {f : Form} (i : ℕ) → Shape t f (node.Seq i) → ((fs : Forms) → StandAll t fs i → Walks c (length (all_classes fs)) r place (in_order_of fs c) x y) → Walks c (length (classes f)) r place (pattern f c) x y
  seq_walks i (a_seq {fs = fs} h) k = k fs h

  pub or_walks : {t : Tree} {f : Form} (i : ℕ) → Shape t f (node.Or i) → ((fs : Forms) → StandAll t fs i → Walks c (length (or_nothing fs (all_classes fs))) r place (one_of fs c) x y) → Walks c (length (classes f)) r place (pattern f c) x y
  or_walks i (an_or {fs = fs} h) k = k fs h

  pub star_walks : {t : Tree} {f : Form} (i : ℕ) → Shape t f (node.Star i) → ((g : Form) → Stands t g i → Walks c (length (classes g)) r place (pattern (star g) c) x y) → Walks c (length (classes f)) r place (pattern f c) x y
  star_walks i (a_star {f = g} h) k = k g h

  pub rep_walks : {t : Tree} {f : Form} (l m i : ℕ) → Shape t f (node.Rep l m i) → ((g : Form) → Stands t g i → Walks c (length (classes (rep l m g))) r place (pattern (rep l m g) c) x y) → Walks c (length (classes f)) r place (pattern f c) x y
  rep_walks l m i (a_rep {f = g} h) k = k g h

pub start_walks : {t : Tree} {f : Form} (c : ℕ) (place : Place) (x y : Code) → Shape t f node.Start → Writes place.into place.depth head x y → Walks c (length (classes f)) c place (pattern f c) x y
start_walks c place x y a_start w few = (omega arith, w)

pub end_walks : {t : Tree} {f : Form} (c : ℕ) (place : Place) (x y : Code) → Shape t f node.End → Writes place.into place.depth tail x y → Walks c (length (classes f)) c place (pattern f c) x y
end_walks c place x y an_end w few = (omega arith, w)

-- ---- lists

not_nil : (nf : Bool) → nf ≡ true → nf ≡ false → ⊥
not_nil nf a b = cc

module _ (c r : ℕ) (place : Place) (x y : Code) where
  pub order_one : {t : Tree} {fs : Forms} (i j : ℕ) (nf : Bool) → Row t fs (node.Cons i j) → ((gs : Forms) → StandAll t gs j → nf ≡ is_nil gs) → nf ≡ true
      → ((f : Form) → Stands t f i → Walks c (length (classes f)) r place (pattern f c) x y) → Walks c (length (all_classes fs)) r place (in_order_of fs c) x y
  order_one i j nf (a_form {f = f} {fs = nil} a b) h e k = subst (λ l. Walks c (length l) r place (pattern f c) x y) (sym (append-nil (classes f))) (k f a)
  order_one i j nf (a_form {f = f} {fs = cons g gs} a b) h e k = absurd (not_nil nf e (h (cons g gs) b))

  pub either_more : {t : Tree} {fs : Forms} (i j : ℕ) (nf : Bool) → Row t fs (node.Cons i j) → ((gs : Forms) → StandAll t gs j → nf ≡ is_nil gs) → nf ≡ false
      → ((f : Form) (gs : Forms) → Stands t f i → StandAll t gs j → Walks c (length (classes f) + length (or_nothing gs (all_classes gs))) r place (Pattern.alt (pattern f c) (one_of gs (c + length (classes f)))) x y)
      → Walks c (length (or_nothing fs (all_classes fs))) r place (one_of fs c) x y
  either_more i j nf (a_form {f = f} {fs = nil} a b) h e k = absurd (not_nil nf (h nil b) e)
  either_more i j nf (a_form {f = f} {fs = cons g gs} a b) h e k =
      subst (λ n. Walks c n r place (one_of (cons f (cons g gs)) c) x y) (sym (length-append (classes f) (all_classes (cons g gs)))) (k f (cons g gs) a b)

pub order_rest : {t : Tree} {fs : Forms} {n : Node} (c : ℕ) (place : Place) (x y : Code) → Row t fs n → ((i j : ℕ) → n ≡ node.Cons i j → ⊥) → Writes place.into place.depth eps x y → Walks c (length (all_classes fs)) c place (in_order_of fs c) x y
order_rest c place x y no_form h w few = (omega arith, w)
order_rest c place x y (a_form {i = i} {j = j} a b) h w few = absurd (h i j refl)

module _ (c r next : ℕ) (place p q : Place) (x y z : Code) where
  pub order_more : {t : Tree} {fs : Forms} (i j : ℕ) (nf : Bool) → Row t fs (node.Cons i j) → ((gs : Forms) → StandAll t gs j → nf ≡ is_nil gs) → nf ≡ false
      → ((gs : Forms) (c : ℕ) → StandAll t gs j → p ≡ record { first = place.first; last = place.last && empty (in_order_of gs c); into = None; depth = place.depth })
      → ((f : Form) (c : ℕ) → Stands t f i → q ≡ record { first = place.first && empty (pattern f c); last = place.last; into = place.into; depth = place.depth })
      → ((f : Form) → Stands t f i → Walks c (length (classes f)) next p (pattern f c) x y)
      → ((gs : Forms) → StandAll t gs j → Walks next (length (all_classes gs)) r q (in_order_of gs next) y z)
      → Walks c (length (all_classes fs)) r place (in_order_of fs c) x z
  order_more i j nf (a_form {f = f} {fs = nil} a b) h e ps qs k k' few = absurd (not_nil nf (h nil b) e)
  order_more i j nf (a_form {f = f} {fs = cons g gs} a b) h e ps qs k k' few =
      let hs : Forms = cons g gs in
      let n : ℕ = c + length (classes f) in
      let l = length-append (classes f) (all_classes hs) in
      let F : Pattern = pattern f c in
      let G : Pattern = in_order_of hs n in
      let A = k f a (omega arith) in
      let at : next ≡ n = A.0 in
      let B = k' hs b (omega arith) in
      let v : Writes None place.depth (stretch place.first (place.last && empty G) F) x y =
      subst (λ s. Writes s.into s.depth (stretch s.first s.last F) x y) (ps hs n b) A.1 in
      let w : Writes place.into place.depth (stretch (place.first && empty F) place.last G) y z =
      subst (λ s. Writes place.into place.depth (stretch (place.first && empty F) place.last (in_order_of hs s)) y z) at (subst (λ s. Writes s.into s.depth (stretch s.first s.last (in_order_of hs next)) y z) (qs f c a) B.1) in
      (B.0 ∙ omega arith, seq_writes place.into place.depth (stretch place.first (place.last && empty G) F) (stretch (place.first && empty F) place.last G) x y z v w)

-- ---- unions

module _ (c r next q : ℕ) (place p : Place) (x : Code) {t : Tree} (f : Form) (gs : Forms) (i j : ℕ) (a : Stands t f i) (b : StandAll t gs j) where
  pub into_walks : (x₁ x₂ x₃ y : Code) → place.into ≡ Some q → p ≡ record { first = place.first; last = place.last; into = Some q; depth = p.depth } → (place.depth + 1 ≤ top → p.depth ≡ place.depth + 1)
      → Does x x₁ (Save place.depth ∷ []) 0 0 0
      → ((f : Form) → Stands t f i → Walks c (length (classes f)) next p (pattern f c) x₁ x₂)
      → Does x₂ x₃ (Load place.depth ∷ []) 0 0 0
      → ((gs : Forms) → StandAll t gs j → Walks next (length (or_nothing gs (all_classes gs))) r place (one_of gs next) x₃ y)
      → Walks c (length (classes f) + length (or_nothing gs (all_classes gs))) r place (Pattern.alt (pattern f c) (one_of gs (c + length (classes f)))) x y
  into_walks x₁ x₂ x₃ y is ps deep p₁ k p₃ k' few =
      let n : ℕ = c + length (classes f) in
      let F : Pattern = pattern f c in
      let f' : Bool = place.first in
      let l' : Bool = place.last in
      let A = k f a (omega arith) in
      let at : next ≡ n = A.0 in
      let B = k' gs b (omega arith) in
      let v : Writes (Some q) p.depth (stretch f' l' F) x₁ x₂ = subst (λ s. Writes s.into s.depth (stretch s.first s.last F) x₁ x₂) ps A.1 in
      let w : Writes (Some q) place.depth (stretch f' l' (one_of gs n)) x₃ y = subst (λ s. Writes s place.depth (stretch f' l' (one_of gs n)) x₃ y) is (subst (λ s. Writes place.into place.depth (stretch f' l' (one_of gs s)) x₃ y) at B.1) in (
        B.0 ∙ omega arith,
        subst (λ s. Writes s place.depth (Pattern.alt (stretch f' l' F) (stretch f' l' (one_of gs n))) x y) (sym is)
            (alt_into place.depth p.depth q (stretch f' l' F) (stretch f' l' (one_of gs n)) x x₁ x₂ x₃ y deep p₁ v p₃ w),
      )

  pub on_walks : (x₁ x₂ x₃ x₄ x₅ x₆ y : Code) (o : Place) → q ≡ x.gather → place.into ≡ None → p ≡ record { first = place.first; last = place.last; into = None; depth = p.depth } → (place.depth + 1 ≤ top → p.depth ≡ place.depth + 1)
      → o ≡ record { first = place.first; last = place.last; into = Some q; depth = place.depth }
      → Does x x₁ [] 0 0 1 → Does x₁ x₂ (Save place.depth ∷ []) 0 0 0
      → ((f : Form) → Stands t f i → Walks c (length (classes f)) next p (pattern f c) x₂ x₃)
      → Does x₃ x₄ (Save q ∷ []) 0 0 0 → Does x₄ x₅ (Load place.depth ∷ []) 0 0 0
      → ((gs : Forms) → StandAll t gs j → Walks next (length (or_nothing gs (all_classes gs))) r o (one_of gs next) x₅ x₆)
      → Does x₆ y (Load q ∷ []) 0 0 0
      → Walks c (length (classes f) + length (or_nothing gs (all_classes gs))) r place (Pattern.alt (pattern f c) (one_of gs (c + length (classes f)))) x y
  on_walks x₁ x₂ x₃ x₄ x₅ x₆ y o here is ps deep os p₁ p₂ k p₄ p₅ k' p₇ few =
      let n : ℕ = c + length (classes f) in
      let F : Pattern = pattern f c in
      let f' : Bool = place.first in
      let l' : Bool = place.last in
      let A = k f a (omega arith) in
      let at : next ≡ n = A.0 in
      let B = k' gs b (omega arith) in
      let v : Writes None p.depth (stretch f' l' F) x₂ x₃ = subst (λ s. Writes s.into s.depth (stretch s.first s.last F) x₂ x₃) ps A.1 in
      let w : Writes (Some q) place.depth (stretch f' l' (one_of gs n)) x₅ x₆ =
      subst (λ s. Writes (Some q) place.depth (stretch f' l' (one_of gs s)) x₅ x₆) at (subst (λ s. Writes s.into s.depth (stretch s.first s.last (one_of gs next)) x₅ x₆) os B.1) in (
        B.0 ∙ omega arith,
        subst (λ s. Writes s place.depth (Pattern.alt (stretch f' l' F) (stretch f' l' (one_of gs n))) x y) (sym is)
            (alt_on place.depth p.depth q (stretch f' l' F) (stretch f' l' (one_of gs n)) x x₂ x₃ x₅ x₆ y here deep (both p₁ p₂) v (both p₄ p₅) w p₇),
      )

-- ---- stars

loops : (P : Pattern) → is_leaf P ≡ false → loop P ≡ Pattern.star (stretch true true P)
loops (leaf c) h = absurd (cc)
loops (many c) h = refl
loops (plus c) h = refl
loops eps h = refl
loops (Pattern.seq F G) h = refl
loops (Pattern.alt F G) h = refl
loops (Pattern.opt F) h = refl
loops (Pattern.star F) h = refl
loops head h = refl
loops tail h = refl

-- the pattern of one leaf has the first class, and no other
record Lone (F : Form) (c : ℕ) : Type 0 where
  pub is : pattern F c ≡ leaf c
  pub one : length (classes F) ≡ 1

spelt_lone : (bs : List ℕ) (c : ℕ) → is_leaf (spelt bs c) ≡ true → Lone (quote bs) c
spelt_lone [] c h = absurd (cc)
spelt_lone (b ∷ []) c h = record { is = refl; one = refl }
spelt_lone (b ∷ (e ∷ bs)) c h = absurd (cc)

rep_lone : (l m : ℕ) (F : Form) (c : ℕ) → is_leaf (pattern (rep l m F) c) ≡ true → Lone (rep l m F) c
rep_lone l m F c = go (leb l m) refl
  where
    A : Pattern
    A = Pattern.seq (copies l (pattern F c)) (up_to (m - l) (pattern F c))

    go : (b : Bool) → leb l m ≡ b → is_leaf (cond (leb l m) A (leaf c)) ≡ true → Lone (rep l m F) c
    go true e h = let g : is_leaf (cond true A (leaf c)) ≡ true = subst (λ b. is_leaf (cond b A (leaf c)) ≡ true) e h in absurd (cc)
    go false e h = record { is = ap (λ b. cond b A (leaf c)) e; one = ap (λ b. length (cond b (cond (eqb m 0) [] (classes F)) (nothing ∷ []))) e }

loop_lone : (P : Pattern) → is_leaf (loop P) ≡ true → ⊥
loop_lone (leaf c) h = cc
loop_lone (many c) h = cc
loop_lone (plus c) h = cc
loop_lone eps h = cc
loop_lone (Pattern.seq F G) h = cc
loop_lone (Pattern.alt F G) h = cc
loop_lone (Pattern.opt F) h = cc
loop_lone (Pattern.star F) h = cc
loop_lone head h = cc
loop_lone tail h = cc

mutual
  lone : (F : Form) (c : ℕ) → is_leaf (pattern F c) ≡ true → Lone F c
  lone (quote bs) c h = spelt_lone bs c h
  lone (set items) c h = record { is = refl; one = refl }
  lone (out items) c h = record { is = refl; one = refl }
  lone (seq fs) c h = let r = lone_seq fs c h in record { is = r.0; one = r.1 }
  lone (or fs) c h = let r = lone_or fs c h in record { is = r.0; one = r.1 }
  lone (star F) c h = absurd (loop_lone (pattern F c) h)
  lone (rep l m F) c h = rep_lone l m F c h
  lone start c h = absurd (cc)
  lone end c h = absurd (cc)

  lone_seq : (fs : Forms) (c : ℕ) → is_leaf (in_order_of fs c) ≡ true → (in_order_of fs c ≡ leaf c) × (length (all_classes fs) ≡ 1)
  lone_seq nil c h = absurd (cc)
  lone_seq (cons F nil) c h = let r = lone F c h in (r.is, ap length (append-nil (classes F)) ∙ r.one)
  lone_seq (cons F (cons G fs)) c h = absurd (cc)

  lone_or : (fs : Forms) (c : ℕ) → is_leaf (one_of fs c) ≡ true → (one_of fs c ≡ leaf c) × (length (or_nothing fs (all_classes fs)) ≡ 1)
  lone_or nil c h = (refl, refl)
  lone_or (cons F nil) c h = let r = lone F c h in (r.is, ap length (append-nil (classes F)) ∙ r.one)
  lone_or (cons F (cons G fs)) c h = absurd (cc)

pub run_walks : (c r : ℕ) (place : Place) (x y : Code) (F : Form) → is_leaf (pattern F c) ≡ true → (c + 1 ≤ top → r ≡ c + 1) → (c ≤ top → Writes place.into place.depth (many c) x y) → Walks c (length (classes F)) r place (pattern (star F) c) x y
run_walks c r place x y F h e w few =
    let o = lone F c h in
    let n = o.one in
    (e (omega arith) ∙ omega arith, subst (λ P. Writes place.into place.depth (stretch place.first place.last (loop P)) x y) (sym o.is) (w (omega arith)))

pub loop_walks : (c next q : ℕ) (place p : Place) (x x₁ x₂ x₃ x₄ x₅ x₆ y : Code) (F : Form) → q ≡ x.star → is_leaf (pattern F c) ≡ false
    → p ≡ record { first = true; last = true; into = None; depth = place.depth }
    → Does x x₁ [] 0 1 0 → Does x₁ x₂ (Or q ∷ []) 0 0 0 → Does x₂ x₃ (Load q ∷ []) 0 0 0
    → Walks c (length (classes F)) next p (pattern F c) x₃ x₄
    → Does x₄ x₅ (Grow q ∷ []) 0 0 0 → Does x₅ x₆ (Load q ∷ []) 0 0 0 → Writes place.into 0 eps x₆ y
    → Walks c (length (classes F)) next place (pattern (star F) c) x y
loop_walks c next q place p x x₁ x₂ x₃ x₄ x₅ x₆ y F here h ps p₁ p₂ p₃ k p₅ p₆ p₇ few =
    let A = k few in
    let P : Pattern = stretch true true (pattern F c) in
    let v : Writes None place.depth P x₃ x₄ = subst (λ s. Writes s.into s.depth (stretch s.first s.last (pattern F c)) x₃ x₄) ps A.1 in (
      A.0,
      subst (λ R. Writes place.into place.depth (stretch place.first place.last R) x y) (sym (loops (pattern F c) h))
          (star_writes place.depth q P x x₃ x₄ y here place.into (both p₁ (both p₂ p₃)) v (both p₅ (both p₆ (stays place.into x₆ y p₇)))),
    )

-- ---- repeats

module _ (c r : ℕ) (place : Place) (x y : Code) (l m : ℕ) (F : Form) where
  abbrev A : Pattern
  A = Pattern.seq (copies l (pattern F c)) (up_to (m - l) (pattern F c))

settled : (b : Bool) (v : ℕ) → cond b v v ≡ v
settled true v = refl
settled false v = refl

-- the number behind the classes of copies, of which there are some or none
abbrev counted : ℕ → ℕ → ℕ → ℕ
counted n next some = cond (eqb n 0) next some

counted_all : (l m next some : ℕ) → l ≤ m → counted (m - l) (counted l next some) some ≡ counted m next some
counted_all l m next some h = ⊎_elim
    (λ e. let z : eqb l 0 ≡ true = eq-eqb l 0 e in let g : m - l ≡ m = omega arith in (λ i. cond (eqb (g i) 0) (cond (z i) next some) some))
    (λ e. let z : eqb l 0 ≡ false = ne_eqb l 0 e in let g : eqb m 0 ≡ false = ne_eqb m 0 (λ u. e (omega arith)) in
    (λ i. cond (eqb (m - l) 0) (cond (z i) next some) some) ∙ settled (eqb (m - l) 0) some ∙ sym (ap (λ b. cond b next some) g))
    (cases_eq l 0)

-- no copy at all
pub never_walks : (c : ℕ) (place : Place) (x y : Code) (l m : ℕ) (F : Form) → l ≤ m → m ≡ 0 → Writes place.into place.depth eps x y → Walks c (length (classes (rep l m F))) c place (pattern (rep l m F) c) x y
never_walks c place x y l m F h z w =
    let p : l ≡ 0 = omega arith in
    let q : m - l ≡ 0 = omega arith in
    let core : Walks c 0 c place (Pattern.seq eps eps) x y = λ few. (omega arith, seq_writes place.into place.depth eps eps x x y (same x) w) in
    subst (λ b. Walks c (length (cond b (cond (eqb m 0) [] (classes F)) (nothing ∷ []))) c place (cond b (Pattern.seq (copies l (pattern F c)) (up_to (m - l) (pattern F c))) (leaf c)) x y) (sym (le-leb l m h))
    (subst (λ b. Walks c (length (cond b [] (classes F))) c place (Pattern.seq (copies l (pattern F c)) (up_to (m - l) (pattern F c))) x y) (sym (eq-eqb m 0 z))
    (subst (λ n. Walks c 0 c place (Pattern.seq (copies n (pattern F c)) (up_to (m - l) (pattern F c))) x y) (sym p)
    (subst (λ n. Walks c 0 c place (Pattern.seq eps (up_to n (pattern F c))) x y) (sym q) core)))
  where
    same : (x : Code) → Writes None place.depth eps x x
    same x deep room hk hs ha = record { written = sym (append-nil (steps_of x)); carries = omega arith; rows = omega arith; gathering = omega arith }

module _ (c r next : ℕ) (place p q : Place) (skips skipped : Bool) (x y z : Code) (l m : ℕ) (F : Form) where
  pub repeat_walks : l ≤ m → (m ≡ 0 → ⊥) → skipped ≡ empty (pattern F c) → skips ≡ (eqb l 0 || skipped)
      → p ≡ record { first = place.first; last = place.last && true; into = None; depth = place.depth }
      → q ≡ record { first = place.first && skips; last = place.last; into = place.into; depth = place.depth }
      → (p.into ≡ None → c + length (classes F) ≤ top → (next ≡ cond (eqb l 0) c (c + length (classes F))) × Writes p.into p.depth (stretch p.first p.last (copies l (pattern F c))) x y)
      → (c + length (classes F) ≤ top → (r ≡ cond (eqb (m - l) 0) next (c + length (classes F))) × Writes q.into q.depth (stretch q.first q.last (up_to (m - l) (pattern F c))) y z)
      → Walks c (length (classes (rep l m F))) r place (pattern (rep l m F) c) x z
  repeat_walks h o e fi ps qs k k' =
      let P : Pattern = pattern F c in
      let all : ℕ = c + length (classes F) in
      let A : Pattern = copies l P in
      let B : Pattern = up_to (m - l) P in
      let D : ℕ = place.depth in
      let la : (place.last && empty B) ≡ (place.last && true) = ap (λ b. place.last && b) (up_to_empty (m - l) P) in
      let fa : (place.first && skips) ≡ (place.first && empty A) = ap (λ b. place.first && b) (fi ∙ ap (λ b. eqb l 0 || b) e ∙ sym (copies_empty l P)) in
      let core : Walks c (length (classes F)) r place (Pattern.seq A B) x z =
      (λ few.
      let K = k (ap (λ (s : Place). s.into) ps) few in
      let L = k' few in
      let v : Writes None D (stretch place.first (place.last && empty B) A) x y =
      subst (λ b. Writes None D (stretch place.first b A) x y) (sym la) (subst (λ s. Writes s.into s.depth (stretch s.first s.last A) x y) ps K.1) in
      let w : Writes place.into D (stretch (place.first && empty A) place.last B) y z =
      subst (λ b. Writes place.into D (stretch b place.last B) y z) fa (subst (λ s. Writes s.into s.depth (stretch s.first s.last B) y z) qs L.1) in (
        L.0 ∙ ap (λ n. cond (eqb (m - l) 0) n all) K.0 ∙ counted_all l m c all h ∙ ap (λ b. cond b c all) (ne_eqb m 0 o),
        seq_writes place.into D (stretch place.first (place.last && empty B) A) (stretch (place.first && empty A) place.last B) x y z v w,
      )) in
      subst (λ b. Walks c (length (cond b (cond (eqb m 0) [] (classes F)) (nothing ∷ []))) r place (cond b (Pattern.seq A B) (leaf c)) x z) (sym (le-leb l m h))
      (subst (λ b. Walks c (length (cond b [] (classes F))) r place (Pattern.seq A B) x z) (sym (ne_eqb m 0 o)) core)

-- no copy is left
pub none_left : (c d : ℕ) (m : Option ℕ) (f l : Bool) (n : ℕ) (P : Pattern) (x : Code) → m ≡ None → n ≡ 0 → Writes m d (stretch f l (copies n P)) x x
none_left c d m f l n P x is z =
    subst (λ a. Writes m d (stretch f l (copies a P)) x x) (sym z)
    (subst (λ a. Writes a d eps x x) (sym is) (λ deep room hk hs ha. record { written = sym (append-nil (steps_of x)); carries = omega arith; rows = omega arith; gathering = omega arith }))

-- one copy, and the n that are left
pub copy_writes : (n left : ℕ) (place p q : Place) (skipped skips : Bool) (P : Pattern) (x y z : Code) → suc n ≡ left → skipped ≡ empty P → skips ≡ (eqb n 0 || skipped) → place.into ≡ None
    → p ≡ record { first = place.first; last = place.last && skips; into = None; depth = place.depth }
    → q ≡ record { first = place.first && skipped; last = place.last; into = place.into; depth = place.depth }
    → Writes p.into p.depth (stretch p.first p.last P) x y
    → Writes q.into q.depth (stretch q.first q.last (copies n P)) y z
    → Writes place.into place.depth (stretch place.first place.last (copies left P)) x z
copy_writes n left place p q skipped skips P x y z one e sk is ps qs k k' =
    let D : ℕ = place.depth in
    let R : Pattern = copies n P in
    let la : (place.last && skips) ≡ (place.last && empty R) = ap (λ b. place.last && b) (sk ∙ ap (λ b. eqb n 0 || b) e ∙ sym (copies_empty n P)) in
    let v : Writes None D (stretch place.first (place.last && empty R) P) x y =
    subst (λ b. Writes None D (stretch place.first b P) x y) la (subst (λ s. Writes s.into s.depth (stretch s.first s.last P) x y) ps k) in
    let w : Writes place.into D (stretch (place.first && empty P) place.last R) y z =
    subst (λ b. Writes place.into D (stretch b place.last R) y z) (ap (λ b. place.first && b) e) (subst (λ s. Writes s.into s.depth (stretch s.first s.last R) y z) qs k') in
    subst (λ i. Writes place.into D (stretch place.first place.last (copies i P)) x z) one
    (seq_writes place.into D (stretch place.first (place.last && empty R) P) (stretch (place.first && empty P) place.last R) x y z v w)

-- one copy more, and those that are left
module _ (c r old next left : ℕ) (place p q : Place) (skipped : Bool) (F : Form) (some : left ≡ 0 → ⊥) (e : skipped ≡ empty (pattern F c)) (few : c + length (classes F) ≤ top) where
  abbrev n : ℕ
  n = left - 1

  abbrev all : ℕ
  all = c + length (classes F)

  abbrev P : Pattern
  P = pattern F c

  one_more : suc (left - 1) ≡ left
  one_more = ⊎_elim (λ z. absurd (some z)) (λ z. omega arith) (cases_eq left 0)

  numbered : next ≡ all → r ≡ cond (eqb n 0) next all → r ≡ cond (eqb left 0) old all
  numbered at is = is ∙ ap (λ v. cond (eqb n 0) v all) at ∙ settled (eqb n 0) all ∙ sym (ap (λ b. cond b old all) (ne_eqb left 0 some))

  -- copies that may be left out, behind what gathers their marks
  module _ (row : ℕ) (y z u : Code)
      (ps : p ≡ record { first = place.first; last = place.last && true; into = None; depth = place.depth })
      (qs : q ≡ record { first = place.first && skipped; last = place.last; into = Some row; depth = place.depth })
      (k : Walks c (length (classes F)) next p P y z)
      (k' : (r ≡ cond (eqb n 0) next all) × Writes q.into q.depth (stretch q.first q.last (up_to n P)) z u) where
    abbrev body : Pattern
    body = Pattern.seq (stretch place.first (place.last && empty (up_to n P)) P) (stretch (place.first && empty P) place.last (up_to n P))

    inner : Writes (Some row) place.depth body y u
    inner =
        let K = k few in
        let D : ℕ = place.depth in
        let R : Pattern = up_to n P in
        let la : (place.last && empty R) ≡ (place.last && true) = ap (λ b. place.last && b) (up_to_empty n P) in
        let v : Writes None D (stretch place.first (place.last && empty R) P) y z =
        subst (λ b. Writes None D (stretch place.first b P) y z) (sym la) (subst (λ s. Writes s.into s.depth (stretch s.first s.last P) y z) ps K.1) in
        let w : Writes (Some row) D (stretch (place.first && empty P) place.last R) z u =
        subst (λ b. Writes (Some row) D (stretch b place.last R) z u) (ap (λ b. place.first && b) e) (subst (λ s. Writes s.into s.depth (stretch s.first s.last R) z u) qs k'.1) in
        seq_writes (Some row) D (stretch place.first (place.last && empty R) P) (stretch (place.first && empty P) place.last R) y z u v w

    pub option_into : (x : Code) → place.into ≡ Some row → Does x y (Or row ∷ []) 0 0 0
        → (r ≡ cond (eqb left 0) old all) × Writes place.into place.depth (stretch place.first place.last (up_to left P)) x u
    option_into x is p₁ = (
      numbered (k few).0 k'.0,
      subst (λ i. Writes place.into place.depth (stretch place.first place.last (up_to i P)) x u) one_more
          (subst (λ m. Writes m place.depth (stretch place.first place.last (up_to (suc n) P)) x u) (sym is) (opt_into place.depth row body x y u p₁ inner)),
    )

    pub option_on : (x x₁ o : Code) → row ≡ x.gather → place.into ≡ None → Does x x₁ [] 0 0 1 → Does x₁ y (Save row ∷ []) 0 0 0 → Does u o (Load row ∷ []) 0 0 0
        → (r ≡ cond (eqb left 0) old all) × Writes place.into place.depth (stretch place.first place.last (up_to left P)) x o
    option_on x x₁ o here is p₁ p₂ p₃ = (
      numbered (k few).0 k'.0,
      subst (λ i. Writes place.into place.depth (stretch place.first place.last (up_to i P)) x o) one_more
          (subst (λ m. Writes m place.depth (stretch place.first place.last (up_to (suc n) P)) x o) (sym is) (opt_on place.depth row body x y u o here (both p₁ p₂) inner p₃)),
    )
