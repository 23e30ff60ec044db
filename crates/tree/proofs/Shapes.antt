-- Which form has a node, by the node, for proofs that go over a node's kinds. Assumes nothing.
use Rattle.std.proofs.Common.{◌≡◌, ℕ, List, Some, None, sym, ◌∙◌, subst}
use Rattle.std.specs.List.{slice_get}
use Rattle.std.proofs.lemmas.Option.{none-some}
use Rattle.form.specs.Form.{Form, Forms, Item, quote, set, out, seq, or, star, rep, start, end, nil, cons}
use Rattle.tree.specs.declared.node.Node.{Node}
use Rattle.tree.specs.declared.node.Node.TheVariants as node
use Rattle.tree.specs.declared.store.Tree.{Tree}
use Rattle.tree.specs.Stands.{nodes_of, bytes_of, Piece, Pieces, Holds, StandAll, Stands}
use Rattle.tree.proofs.Only.{same_node}

-- the form that the node stands for; its parts stand in the tree
pub data Shape (t : Tree) : Form → Node → Type 0 where
  a_quote : {a e : ℕ} {bytes : List ℕ} → Piece (bytes_of t) a e bytes → Shape t (quote bytes) (node.Quote a e)
  a_set : {a e : ℕ} {is : List Item} → Pieces t a e is → Shape t (set is) (node.Set a e)
  an_out : {a e : ℕ} {is : List Item} → Pieces t a e is → Shape t (out is) (node.Out a e)
  a_seq : {i : ℕ} {fs : Forms} → StandAll t fs i → Shape t (seq fs) (node.Seq i)
  an_or : {i : ℕ} {fs : Forms} → StandAll t fs i → Shape t (or fs) (node.Or i)
  a_star : {i : ℕ} {f : Form} → Stands t f i → Shape t (star f) (node.Star i)
  a_rep : {l m i : ℕ} {f : Form} → Stands t f i → Shape t (rep l m f) (node.Rep l m i)
  a_start : Shape t start node.Start
  an_end : Shape t end node.End

from : {t : Tree} {f : Form} {n m : Node} → n ≡ m → Shape t f m → Shape t f n
from {t} {f} e a = subst (Shape t f) (sym e) a

shape : (t : Tree) (f : Form) (n : Node) → Holds t f n → Shape t f n
shape t (quote bytes) n h = from h.2 (a_quote h.3)
shape t (set is) n h = from h.2 (a_set h.3)
shape t (out is) n h = from h.2 (an_out h.3)
shape t (seq fs) n h = from h.1 (a_seq h.2)
shape t (or fs) n h = from h.1 (an_or h.2)
shape t (star f) n h = from h.1 (a_star h.2)
shape t (rep l m f) n h = from h.1 (a_rep h.2)
shape t start n h = from h a_start
shape t end n h = from h an_end

-- the form of the node that was found at i
pub found : (t : Tree) (i : ℕ) (m n : Node) (f : Form) → m ≡ n → Some m ≡ slice_get (nodes_of t) i → Stands t f i → Shape t f n
found t i m n f is at h = subst (Shape t f) (same_node h.0 m h.1 (sym at) ∙ is) (shape t f h.0 h.2)

-- the list of forms that the node stands for
pub data Row (t : Tree) : Forms → Node → Type 0 where
  no_form : Row t nil node.Nil
  a_form : {i j : ℕ} {f : Form} {fs : Forms} → Stands t f i → StandAll t fs j → Row t (cons f fs) (node.Cons i j)

row : (t : Tree) (fs : Forms) (i : ℕ) (n : Node) → slice_get (nodes_of t) i ≡ Some n → StandAll t fs i → Row t fs n
row t nil i n at h = subst (Row t nil) (same_node node.Nil n h at) no_form
row t (cons f fs) i n at h = subst (Row t (cons f fs)) (same_node (node.Cons h.0 h.1) n h.2 at) (a_form h.3 h.4)

pub found_row : (t : Tree) (i : ℕ) (m n : Node) (fs : Forms) → m ≡ n → Some m ≡ slice_get (nodes_of t) i → StandAll t fs i → Row t fs n
found_row t i m n fs is at h = subst (Row t fs) is (row t fs i m (sym at) h)

pub none_stands : (t : Tree) (i : ℕ) (f : Form) → None ≡ slice_get (nodes_of t) i → Stands t f i → ⊥
none_stands t i f at h = none-some h.0 (at ∙ h.1)

pub none_stand : (t : Tree) (i : ℕ) (fs : Forms) → None ≡ slice_get (nodes_of t) i → StandAll t fs i → ⊥
none_stand t i nil at h = none-some node.Nil (at ∙ h)
none_stand t i (cons f fs) at h = none-some (node.Cons h.0 h.1) (at ∙ h.2)

-- a list is no form
pub no_nil : {t : Tree} {f : Form} → Shape t f node.Nil → ⊥
no_nil s = elim s [ ]

pub no_cons : {t : Tree} {f : Form} (i j : ℕ) → Shape t f (node.Cons i j) → ⊥
no_cons i j s = elim s [ ]
