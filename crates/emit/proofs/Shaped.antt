-- What the patterns of forms are like, by the forms' nodes. Assumes nothing.
use Rattle.std.proofs.Common.{◌≡◌, ℕ, zero, suc, ◌+◌, ◌-◌, ◌<◌, ◌≤◌, Bool, true, false, cond, ◌&&◌, ◌||◌, eqb, ltb, leb, List, [], ◌∷◌, length, sym, refl, ap, ◌∙◌, arith}
use mathlib.Core.Bool.{and-true, or-false}
use Rattle.std.proofs.Math.Bool.{and_self}
use Rattle.std.proofs.lemmas.List.{length-take, length-drop}
use Rattle.std.proofs.lemmas.Bool.Decides.{nat_tests}
use Rattle.std.proofs.lemmas.Bool.{le-leb, lt-leb, eq-eqb, ne_eqb}
use Rattle.form.specs.Form.{Form, Forms, rep, nil, cons}
use Rattle.theory.specs.Pattern.{Pattern, leaf, many, plus, eps, head, tail}
use Rattle.theory.specs.Written.{spelt, and_then, or_else, empty, loop, copies, up_to, pattern, in_order_of, one_of, classes}
use Rattle.tree.specs.declared.node.Node.{Node}
use Rattle.tree.specs.declared.node.Node.TheVariants as node
use Rattle.tree.specs.declared.store.Tree.{Tree}
use Rattle.tree.specs.Stands.{bytes_of, Piece, StandAll, Stands}
use Rattle.tree.proofs.Shapes.{Shape, a_quote, a_set, an_out, a_seq, an_or, a_star, a_rep, a_start, an_end, Row, no_form, a_form}
use Rattle.emit.specs.Walking.{is_leaf, is_nil}

-- ---- quotes

pub quote_long : (t : Tree) (a e : ℕ) (bs : List ℕ) → Piece (bytes_of t) a e bs → length bs ≡ e - a
quote_long t a e bs p = ap length p.2 ∙ simp (length-take, length-drop) (omega (arith, p.0, p.1))

pub spelt_empty : (bs : List ℕ) (c : ℕ) → empty (spelt bs c) ≡ eqb (length bs) 0
spelt_empty [] c = refl
spelt_empty (b ∷ []) c = refl
spelt_empty (b ∷ (d ∷ bs)) c = sym (ne_eqb (length (b ∷ (d ∷ bs))) 0 (λ e. omega arith))

spelt_leaf : (bs : List ℕ) (c : ℕ) → is_leaf (spelt bs c) ≡ eqb (length bs) 1
spelt_leaf [] c = refl
spelt_leaf (b ∷ []) c = refl
spelt_leaf (b ∷ (d ∷ bs)) c = sym (ne_eqb (length (b ∷ (d ∷ bs))) 1 (λ e. omega arith))

-- ---- stars and repeats

pub loop_empty : (P : Pattern) → empty (loop P) ≡ true
loop_empty (leaf c) = refl
loop_empty (many c) = refl
loop_empty (plus c) = refl
loop_empty eps = refl
loop_empty (Pattern.seq F G) = refl
loop_empty (Pattern.alt F G) = refl
loop_empty (Pattern.opt F) = refl
loop_empty (Pattern.star F) = refl
loop_empty head = refl
loop_empty tail = refl

loop_leaf : (P : Pattern) → is_leaf (loop P) ≡ false
loop_leaf (leaf c) = refl
loop_leaf (many c) = refl
loop_leaf (plus c) = refl
loop_leaf eps = refl
loop_leaf (Pattern.seq F G) = refl
loop_leaf (Pattern.alt F G) = refl
loop_leaf (Pattern.opt F) = refl
loop_leaf (Pattern.star F) = refl
loop_leaf head = refl
loop_leaf tail = refl

pub copies_empty : (n : ℕ) (P : Pattern) → empty (copies n P) ≡ (eqb n 0 || empty P)
copies_empty zero P = refl
copies_empty (suc zero) P = and-true (empty P)
copies_empty (suc (suc n)) P =
    ap (λ b. empty P && b) (copies_empty (suc n) P ∙ ap (λ b. b || empty P) (ne_eqb (suc n) 0 (λ e. omega arith)))
    ∙ and_self (empty P) ∙ sym (ap (λ b. b || empty P) (ne_eqb (suc (suc n)) 0 (λ e. omega arith)))

pub up_to_empty : (d : ℕ) (P : Pattern) → empty (up_to d P) ≡ true
up_to_empty zero P = refl
up_to_empty (suc d) P = refl

-- ---- what the functions answer

module _ (c : ℕ) where
  pub quote_empties : {t : Tree} {f : Form} (a e r : ℕ) → Shape t f (node.Quote a e) → r ≡ e - a → eqb r 0 ≡ empty (pattern f c)
  quote_empties {t} a e r (a_quote {bytes = bs} p) is = ap (λ n. eqb n 0) (is ∙ sym (quote_long t a e bs p)) ∙ sym (spelt_empty bs c)

  pub set_empties : {t : Tree} {f : Form} (a e : ℕ) → Shape t f (node.Set a e) → false ≡ empty (pattern f c)
  set_empties a e (a_set p) = refl

  pub out_empties : {t : Tree} {f : Form} (a e : ℕ) → Shape t f (node.Out a e) → false ≡ empty (pattern f c)
  out_empties a e (an_out p) = refl

  pub seq_empties : {t : Tree} {f : Form} (i : ℕ) (r : Bool) → Shape t f (node.Seq i) → ((fs : Forms) (c : ℕ) → StandAll t fs i → r ≡ empty (in_order_of fs c)) → r ≡ empty (pattern f c)
  seq_empties i r (a_seq {fs = fs} h) k = k fs c h

  pub or_empties : {t : Tree} {f : Form} (i : ℕ) (r : Bool) → Shape t f (node.Or i) → ((fs : Forms) (c : ℕ) → StandAll t fs i → r ≡ empty (one_of fs c)) → r ≡ empty (pattern f c)
  or_empties i r (an_or {fs = fs} h) k = k fs c h

  pub star_empties : {t : Tree} {f : Form} (i : ℕ) → Shape t f (node.Star i) → true ≡ empty (pattern f c)
  star_empties i (a_star {f = g} h) = sym (loop_empty (pattern g c))

  pub start_empties : {t : Tree} {f : Form} → Shape t f node.Start → false ≡ empty (pattern f c)
  start_empties a_start = refl

  pub end_empties : {t : Tree} {f : Form} → Shape t f node.End → false ≡ empty (pattern f c)
  end_empties an_end = refl

  repeated : (l m : ℕ) (g : Form) → l ≤ m → empty (pattern (rep l m g) c) ≡ (eqb l 0 || empty (pattern g c))
  repeated l m g h =
      ap (λ b. empty (cond b (Pattern.seq (copies l (pattern g c)) (up_to (m - l) (pattern g c))) (leaf c))) (le-leb l m h)
      ∙ ap (λ b. empty (copies l (pattern g c)) && b) (up_to_empty (m - l) (pattern g c)) ∙ and-true (empty (copies l (pattern g c)))
      ∙ copies_empty l (pattern g c)

  pub none_empties : {t : Tree} {f : Form} (l m i : ℕ) → Shape t f (node.Rep l m i) → l ≤ m → l ≡ 0 → true ≡ empty (pattern f c)
  none_empties l m i (a_rep {f = g} s) h z = sym (repeated l m g h ∙ ap (λ b. b || empty (pattern g c)) (eq-eqb l 0 z))

  pub some_empties : {t : Tree} {f : Form} (l m i : ℕ) (r : Bool) → Shape t f (node.Rep l m i) → l ≤ m → (l ≡ 0 → ⊥) → ((g : Form) (c : ℕ) → Stands t g i → r ≡ empty (pattern g c)) → r ≡ empty (pattern f c)
  some_empties l m i r (a_rep {f = g} s) h z k = sym (repeated l m g h ∙ ap (λ b. b || empty (pattern g c)) (ne_eqb l 0 z) ∙ sym (k g c s))

  pub falling_empties : {t : Tree} {f : Form} (l m i : ℕ) → Shape t f (node.Rep l m i) → m < l → false ≡ empty (pattern f c)
  falling_empties l m i (a_rep {f = g} s) h =
      sym (ap (λ b. empty (cond b (Pattern.seq (copies l (pattern g c)) (up_to (m - l) (pattern g c))) (leaf c))) (lt-leb l m h))

  then_empty : (fs : Forms) (F G : Pattern) → (is_nil fs ≡ true → empty G ≡ true) → empty (and_then fs F G) ≡ (empty F && empty G)
  then_empty nil F G h = sym (ap (λ b. empty F && b) (h refl) ∙ and-true (empty F))
  then_empty (cons f fs) F G h = refl

  else_empty : (fs : Forms) (F G : Pattern) → (is_nil fs ≡ true → empty G ≡ false) → empty (or_else fs F G) ≡ (empty F || empty G)
  else_empty nil F G h = sym (ap (λ b. empty F || b) (h refl) ∙ or-false (empty F))
  else_empty (cons f fs) F G h = refl

  nil_true : (fs : Forms) (d : ℕ) → is_nil fs ≡ true → empty (in_order_of fs d) ≡ true
  nil_true nil d h = refl
  nil_true (cons f fs) d h = absurd (cc)

  nil_false : (fs : Forms) (d : ℕ) → is_nil fs ≡ true → empty (one_of fs d) ≡ false
  nil_false nil d h = refl
  nil_false (cons f fs) d h = absurd (cc)

  pub all_cons : {t : Tree} {fs : Forms} (i j : ℕ) (q r : Bool) → Row t fs (node.Cons i j) → ((f : Form) (c : ℕ) → Stands t f i → q ≡ empty (pattern f c)) → ((gs : Forms) (c : ℕ) → StandAll t gs j → r ≡ empty (in_order_of gs c)) → (q && r) ≡ empty (in_order_of fs c)
  all_cons i j q r (a_form {f = f} {fs = gs} a b) h k =
      let d : ℕ = c + length (classes f) in
      (λ i. h f c a i && k gs d b i) ∙ sym (then_empty gs (pattern f c) (in_order_of gs d) (nil_true gs d))

  pub any_cons : {t : Tree} {fs : Forms} (i j : ℕ) (q r : Bool) → Row t fs (node.Cons i j) → ((f : Form) (c : ℕ) → Stands t f i → q ≡ empty (pattern f c)) → ((gs : Forms) (c : ℕ) → StandAll t gs j → r ≡ empty (one_of gs c)) → (q || r) ≡ empty (one_of fs c)
  any_cons i j q r (a_form {f = f} {fs = gs} a b) h k =
      let d : ℕ = c + length (classes f) in
      (λ i. h f c a i || k gs d b i) ∙ sym (else_empty gs (pattern f c) (one_of gs d) (nil_false gs d))

  -- where the first part decides
  pub all_first : {t : Tree} {fs : Forms} (i j : ℕ) (q : Bool) → Row t fs (node.Cons i j) → ((f : Form) (c : ℕ) → Stands t f i → q ≡ empty (pattern f c)) → q ≡ false → q ≡ empty (in_order_of fs c)
  all_first i j q (a_form {f = f} {fs = gs} a b) h e =
      let d : ℕ = c + length (classes f) in
      e ∙ ap (λ v. v && empty (in_order_of gs d)) (sym e ∙ h f c a) ∙ sym (then_empty gs (pattern f c) (in_order_of gs d) (nil_true gs d))

  pub any_first : {t : Tree} {fs : Forms} (i j : ℕ) (q : Bool) → Row t fs (node.Cons i j) → ((f : Form) (c : ℕ) → Stands t f i → q ≡ empty (pattern f c)) → q ≡ true → q ≡ empty (one_of fs c)
  any_first i j q (a_form {f = f} {fs = gs} a b) h e =
      let d : ℕ = c + length (classes f) in
      e ∙ ap (λ v. v || empty (one_of gs d)) (sym e ∙ h f c a) ∙ sym (else_empty gs (pattern f c) (one_of gs d) (nil_false gs d))

  pub all_rest : {t : Tree} {fs : Forms} {n : Node} → Row t fs n → ((i j : ℕ) → n ≡ node.Cons i j → ⊥) → true ≡ empty (in_order_of fs c)
  all_rest no_form h = refl
  all_rest (a_form {i = i} {j = j} a b) h = absurd (h i j refl)

  pub any_rest : {t : Tree} {fs : Forms} {n : Node} → Row t fs n → ((i j : ℕ) → n ≡ node.Cons i j → ⊥) → false ≡ empty (one_of fs c)
  any_rest no_form h = refl
  any_rest (a_form {i = i} {j = j} a b) h = absurd (h i j refl)

  -- ---- one leaf

  pub quote_single : {t : Tree} {f : Form} (a e r : ℕ) → Shape t f (node.Quote a e) → r ≡ e - a → eqb r 1 ≡ is_leaf (pattern f c)
  quote_single {t} a e r (a_quote {bytes = bs} p) is = ap (λ n. eqb n 1) (is ∙ sym (quote_long t a e bs p)) ∙ sym (spelt_leaf bs c)

  pub set_single : {t : Tree} {f : Form} (a e : ℕ) → Shape t f (node.Set a e) → true ≡ is_leaf (pattern f c)
  set_single a e (a_set p) = refl

  pub out_single : {t : Tree} {f : Form} (a e : ℕ) → Shape t f (node.Out a e) → true ≡ is_leaf (pattern f c)
  out_single a e (an_out p) = refl

  pub seq_single : {t : Tree} {f : Form} (i : ℕ) (r : Bool) → Shape t f (node.Seq i) → ((fs : Forms) (c : ℕ) → StandAll t fs i → r ≡ is_leaf (in_order_of fs c)) → r ≡ is_leaf (pattern f c)
  seq_single i r (a_seq {fs = fs} h) k = k fs c h

  any_alone : (fs : Forms) → is_leaf (one_of fs c) ≡ (is_nil fs || is_leaf (in_order_of fs c))
  any_alone nil = refl
  any_alone (cons f nil) = refl
  any_alone (cons f (cons g fs)) = refl

  pub or_single : {t : Tree} {f : Form} (i : ℕ) (q r : Bool) → Shape t f (node.Or i) → ((fs : Forms) → StandAll t fs i → q ≡ is_nil fs) → ((fs : Forms) (c : ℕ) → StandAll t fs i → r ≡ is_leaf (in_order_of fs c)) → (q || r) ≡ is_leaf (pattern f c)
  or_single i q r (an_or {fs = fs} h) p k = (λ i. p fs h i || k fs c h i) ∙ sym (any_alone fs)

  pub or_none : {t : Tree} {f : Form} (i : ℕ) → Shape t f (node.Or i) → (q : Bool) → ((fs : Forms) → StandAll t fs i → q ≡ is_nil fs) → q ≡ true → q ≡ is_leaf (pattern f c)
  or_none i (an_or {fs = fs} h) q p e = e ∙ ap (λ b. b || is_leaf (in_order_of fs c)) (sym e ∙ p fs h) ∙ sym (any_alone fs)

  pub star_single : {t : Tree} {f : Form} (i : ℕ) → Shape t f (node.Star i) → false ≡ is_leaf (pattern f c)
  star_single i (a_star {f = g} h) = sym (loop_leaf (pattern g c))

  pub start_single : {t : Tree} {f : Form} → Shape t f node.Start → false ≡ is_leaf (pattern f c)
  start_single a_start = refl

  pub end_single : {t : Tree} {f : Form} → Shape t f node.End → false ≡ is_leaf (pattern f c)
  end_single an_end = refl

  rep_leaf : (b : Bool) (F G : Pattern) → is_leaf (cond b (Pattern.seq F G) (leaf c)) ≡ cond b false true
  rep_leaf true F G = refl
  rep_leaf false F G = refl

  pub rep_single : {t : Tree} {f : Form} (l m i : ℕ) (r : Bool) → Shape t f (node.Rep l m i) → r ≡ cond (leb l m) false true → r ≡ is_leaf (pattern f c)
  rep_single l m i r (a_rep {f = g} s) h = h ∙ sym (rep_leaf (leb l m) (copies l (pattern g c)) (up_to (m - l) (pattern g c)))

  one_alone : (fs : Forms) (F G : Pattern) → is_leaf (and_then fs F G) ≡ (is_nil fs && is_leaf F)
  one_alone nil F G = refl
  one_alone (cons f fs) F G = refl

  pub alone_cons : {t : Tree} {fs : Forms} (i j : ℕ) (q r : Bool) → Row t fs (node.Cons i j) → ((gs : Forms) → StandAll t gs j → q ≡ is_nil gs) → ((f : Form) (c : ℕ) → Stands t f i → r ≡ is_leaf (pattern f c)) → (q && r) ≡ is_leaf (in_order_of fs c)
  alone_cons i j q r (a_form {f = f} {fs = gs} a b) h k = (λ i. h gs b i && k f c a i) ∙ sym (one_alone gs (pattern f c) (in_order_of gs (c + length (classes f))))

  pub alone_more : {t : Tree} {fs : Forms} (i j : ℕ) → Row t fs (node.Cons i j) → (q : Bool) → ((gs : Forms) → StandAll t gs j → q ≡ is_nil gs) → q ≡ false → q ≡ is_leaf (in_order_of fs c)
  alone_more i j (a_form {f = f} {fs = gs} a b) q h e = e ∙ ap (λ v. v && is_leaf (pattern f c)) (sym e ∙ h gs b) ∙ sym (one_alone gs (pattern f c) (in_order_of gs (c + length (classes f))))

  pub alone_rest : {t : Tree} {fs : Forms} {n : Node} → Row t fs n → ((i j : ℕ) → n ≡ node.Cons i j → ⊥) → false ≡ is_leaf (in_order_of fs c)
  alone_rest no_form h = refl
  alone_rest (a_form {i = i} {j = j} a b) h = absurd (h i j refl)

pub falls_test : (l m : ℕ) → ltb m l ≡ cond (leb l m) false true
falls_test l m = grind (arith, nat_tests)
