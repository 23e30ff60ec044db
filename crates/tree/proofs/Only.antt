-- A node stands for one form at most. Assumes nothing.
use Rattle.std.proofs.Common.{◌≡◌, ℕ, List, Some, Option, sym, refl, ap, ◌∙◌, subst}
use Rattle.std.specs.List.{slice_get}
use Rattle.form.specs.Form.{Form, Forms, Item, quote, set, out, seq, or, star, rep, start, end, nil, cons}
use Rattle.tree.specs.declared.node.Node.{Node}
use Rattle.tree.specs.declared.node.Node.TheVariants as node
use Rattle.tree.specs.declared.store.Tree.{Tree}
use Rattle.tree.specs.Stands.{nodes_of, bytes_of, Piece, Pieces, Holds, StandAll, Stands}

-- which node a form has, by the node
mutual
  pub data FormOf (t : Tree) : Form → Node → Type 0 where
    a_quote : {a e : ℕ} {bytes : List ℕ} → Piece (bytes_of t) a e bytes → FormOf t (quote bytes) (node.Quote a e)
    a_set : {a e : ℕ} {is : List Item} → Pieces t a e is → FormOf t (set is) (node.Set a e)
    an_out : {a e : ℕ} {is : List Item} → Pieces t a e is → FormOf t (out is) (node.Out a e)
    a_seq : {i : ℕ} {fs : Forms} {n : Node} → slice_get (nodes_of t) i ≡ Some n → FormsOf t fs n → FormOf t (seq fs) (node.Seq i)
    an_or : {i : ℕ} {fs : Forms} {n : Node} → slice_get (nodes_of t) i ≡ Some n → FormsOf t fs n → FormOf t (or fs) (node.Or i)
    a_star : {i : ℕ} {f : Form} {n : Node} → slice_get (nodes_of t) i ≡ Some n → FormOf t f n → FormOf t (star f) (node.Star i)
    a_rep : {l m i : ℕ} {f : Form} {n : Node} → slice_get (nodes_of t) i ≡ Some n → FormOf t f n → FormOf t (rep l m f) (node.Rep l m i)
    a_start : FormOf t start node.Start
    an_end : FormOf t end node.End

  pub data FormsOf (t : Tree) : Forms → Node → Type 0 where
    no_form : FormsOf t nil node.Nil
    a_form : {i j : ℕ} {f : Form} {fs : Forms} {n m : Node} → slice_get (nodes_of t) i ≡ Some n → FormOf t f n → slice_get (nodes_of t) j ≡ Some m → FormsOf t fs m → FormsOf t (cons f fs) (node.Cons i j)

from : {t : Tree} {f : Form} {n m : Node} → n ≡ m → FormOf t f m → FormOf t f n
from {t} {f} e a = subst (FormOf t f) (sym e) a

mutual
  pub form_of : (t : Tree) (f : Form) (n : Node) → Holds t f n → FormOf t f n
  form_of t (quote bytes) n h = from h.2 (a_quote h.3)
  form_of t (set is) n h = from h.2 (a_set h.3)
  form_of t (out is) n h = from h.2 (an_out h.3)
  form_of t (seq fs) n h = let r = forms_of t fs _ h.2 in from h.1 (a_seq r.1 r.2)
  form_of t (or fs) n h = let r = forms_of t fs _ h.2 in from h.1 (an_or r.1 r.2)
  form_of t (star f) n h = from h.1 (a_star h.2.1 (form_of t f _ h.2.2))
  form_of t (rep l m f) n h = from h.1 (a_rep h.2.1 (form_of t f _ h.2.2))
  form_of t start n h = from h a_start
  form_of t end n h = from h an_end

  pub forms_of : (t : Tree) (fs : Forms) (i : ℕ) → StandAll t fs i → (n : Node) × (slice_get (nodes_of t) i ≡ Some n) × FormsOf t fs n
  forms_of t nil i h = (node.Nil, h, no_form)
  forms_of t (cons f fs) i h =
      let r = forms_of t fs _ h.4 in
      (node.Cons h.0 h.1, h.2, a_form h.3.1 (form_of t f _ h.3.2) r.1 r.2)

pub same_node : {o : Option Node} (m n : Node) → o ≡ Some m → o ≡ Some n → m ≡ n
same_node m n p q = cc

moved : {t : Tree} {o : Option Node} {f : Form} {n m : Node} → o ≡ Some n → o ≡ Some m → FormOf t f m → FormOf t f n
moved {t} {f = f} {n = n} {m = m} p q a = subst (FormOf t f) (same_node m n q p) a

moved_all : {t : Tree} {o : Option Node} {fs : Forms} {n m : Node} → o ≡ Some n → o ≡ Some m → FormsOf t fs m → FormsOf t fs n
moved_all {t} {fs = fs} {n = n} {m = m} p q a = subst (FormsOf t fs) (same_node m n q p) a

mutual
  form_once : {t : Tree} {f g : Form} {n : Node} → FormOf t f n → FormOf t g n → f ≡ g
  form_once (a_quote p) (a_quote q) = ap quote (p.2 ∙ sym q.2)
  form_once (a_set p) (a_set q) = ap set (p.2 ∙ sym q.2)
  form_once (an_out p) (an_out q) = ap out (p.2 ∙ sym q.2)
  form_once (a_seq p a) (a_seq q b) = ap seq (forms_once a (moved_all p q b))
  form_once (an_or p a) (an_or q b) = ap or (forms_once a (moved_all p q b))
  form_once (a_star p a) (a_star q b) = ap star (form_once a (moved p q b))
  form_once (a_rep {l = l} {m = m} p a) (a_rep q b) = ap (rep l m) (form_once a (moved p q b))
  form_once a_start a_start = refl
  form_once an_end an_end = refl

  forms_once : {t : Tree} {fs gs : Forms} {n : Node} → FormsOf t fs n → FormsOf t gs n → fs ≡ gs
  forms_once no_form no_form = refl
  forms_once (a_form {f = f} {fs = fs} p a q b) (a_form {f = g} {fs = gs} r c s d) = ap (λ v. cons v fs) (form_once a (moved p r c)) ∙ ap (cons g) (forms_once b (moved_all q s d))

pub stands_once : (t : Tree) (f g : Form) (i : ℕ) → Stands t f i → Stands t g i → f ≡ g
stands_once t f g i a b = form_once (form_of t f _ a.2) (moved a.1 b.1 (form_of t g _ b.2))
