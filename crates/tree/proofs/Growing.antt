-- What stands in a tree stands in it when it has grown. Assumes nothing.
use Rattle.std.proofs.Common.{◌≡◌, ℕ, zero, suc, ◌+◌, ◌-◌, ◌<◌, ◌≤◌, true, List, [], ◌∷◌, ◌++◌, map, length, take, drop, Some, sym, refl, ap, ◌∙◌, append_assoc, append-nil, arith}
use Rattle.std.specs.List.{slice_get}
use Rattle.std.proofs.lemmas.List.{map-append, length-append, length-drop, drop-append-le, take-append-le, take_all, drop_at, length-map}
use Rattle.std.proofs.lemmas.Option.{none-some, slice_get_within}
use Rattle.std.proofs.lemmas.Bool.{lt-ltb, and_from}
use Rattle.tree.specs.Nodes.{falls}
use Rattle.form.specs.Form.{Form, Forms, Item, quote, set, out, seq, or, star, rep, start, end, nil, cons}
use Rattle.tree.specs.declared.node.Node.{Node}
use Rattle.tree.specs.declared.node.Node.TheVariants as node
use Rattle.tree.specs.declared.node.Range.{Range}
use Rattle.tree.specs.declared.store.Tree.{Tree}
use Rattle.tree.specs.Stands.{nodes_of, bytes_of, ranges_of, item, Piece, Pieces, Holds, StandAll, Stands, Grows, Same, Pushed, Quoted}

nth_more : {X : Type 0} (xs ys : List X) (i : ℕ) (x : X) → slice_get xs i ≡ Some x → slice_get (xs ++ ys) i ≡ Some x
nth_more [] ys i x e = absurd (none-some x e)
nth_more (y ∷ xs) ys zero x e = e
nth_more (y ∷ xs) ys (suc i) x e = nth_more xs ys i x e

nth_last : {X : Type 0} (xs : List X) (x : X) → slice_get (xs ++ x ∷ []) (length xs) ≡ Some x
nth_last [] x = refl
nth_last (y ∷ xs) x = nth_last xs x

cut_more : {X : Type 0} (xs ys : List X) (a e : ℕ) → e ≤ length xs → a ≤ e → take (e - a) (drop a (xs ++ ys)) ≡ take (e - a) (drop a xs)
cut_more xs ys a e h l =
    let p = drop-append-le a xs ys (omega arith) in
    let q : e - a ≤ length (drop a xs) = simp length-drop (omega arith) in
    ap (take (e - a)) p ∙ take-append-le (e - a) (drop a xs) ys q

piece_more : {X : Type 0} (xs ys zs : List X) (a e : ℕ) (ps : List X) → zs ≡ xs ++ ys → Piece xs a e ps → Piece zs a e ps
piece_more xs ys zs a e ps same p =
    (p.0, omega (arith, p.1, simp length-append at (ap length same)), p.2 ∙ sym (cut_more xs ys a e p.1 p.0) ∙ ap (λ v. take (e - a) (drop a v)) (sym same))

pieces_more : (t u : Tree) (a e : ℕ) (is : List Item) → Grows t u → Pieces t a e is → Pieces u a e is
pieces_more t u a e is g p =
    piece_more (map item (ranges_of t)) (map item g.ranges.0) _ a e is (ap (map item) g.ranges.1 ∙ map-append item (ranges_of t) g.ranges.0) p

node_more : (t u : Tree) (i : ℕ) (n : Node) → Grows t u → slice_get (nodes_of t) i ≡ Some n → slice_get (nodes_of u) i ≡ Some n
node_more t u i n g e = ap (λ v. slice_get v i) g.nodes.1 ∙ nth_more (nodes_of t) g.nodes.0 i n e

mutual
  pub holds_more : (t u : Tree) (f : Form) (n : Node) → Grows t u → Holds t f n → Holds u f n
  holds_more t u (quote bytes) n g h = (h.0, h.1, h.2, piece_more _ g.bytes.0 _ _ _ _ g.bytes.1 h.3)
  holds_more t u (set is) n g h = (h.0, h.1, h.2, pieces_more t u _ _ _ g h.3)
  holds_more t u (out is) n g h = (h.0, h.1, h.2, pieces_more t u _ _ _ g h.3)
  holds_more t u (seq fs) n g h = (h.0, h.1, all_more t u fs _ g h.2)
  holds_more t u (or fs) n g h = (h.0, h.1, all_more t u fs _ g h.2)
  holds_more t u (star f) n g h = (h.0, h.1, (h.2.0, node_more t u _ _ g h.2.1, holds_more t u f _ g h.2.2))
  holds_more t u (rep l m f) n g h = (h.0, h.1, (h.2.0, node_more t u _ _ g h.2.1, holds_more t u f _ g h.2.2))
  holds_more t u start n g h = h
  holds_more t u end n g h = h

  pub all_more : (t u : Tree) (fs : Forms) (i : ℕ) → Grows t u → StandAll t fs i → StandAll u fs i
  all_more t u nil i g h = node_more t u i _ g h
  all_more t u (cons f fs) i g h =
      (h.0, h.1, node_more t u i _ g h.2, (h.3.0, node_more t u _ _ g h.3.1, holds_more t u f _ g h.3.2), all_more t u fs _ g h.4)

pub stands_more : (t u : Tree) (f : Form) (i : ℕ) → Grows t u → Stands t f i → Stands u f i
stands_more t u f i g h = (h.0, node_more t u i _ g h.1, holds_more t u f _ g h.2)

pub grows_same : (t u : Tree) → Same t u → Grows t u
grows_same t u s =
    record { nodes = ([], s.nodes ∙ sym (append-nil _)); bytes = ([], s.bytes ∙ sym (append-nil _)); ranges = ([], s.ranges ∙ sym (append-nil _)) }

chain : {X : Type 0} (xs ys zs : List X) → ((more : List X) × (ys ≡ xs ++ more)) → ((more : List X) × (zs ≡ ys ++ more)) → (more : List X) × (zs ≡ xs ++ more)
chain xs ys zs a b = (a.0 ++ b.0, b.1 ∙ ap (λ v. v ++ b.0) a.1 ∙ append_assoc xs a.0 b.0)

pub grows_on : (t u v : Tree) → Grows t u → Grows u v → Grows t v
grows_on t u v a b =
    record { nodes = chain _ _ _ a.nodes b.nodes; bytes = chain _ _ _ a.bytes b.bytes; ranges = chain _ _ _ a.ranges b.ranges }

pub grows_pushed : (t u : Tree) (n : Node) (i : ℕ) → Pushed t u n i → Grows t u
grows_pushed t u n i p =
    record { nodes = (n ∷ [], p.nodes); bytes = ([], p.bytes ∙ sym (append-nil _)); ranges = ([], p.ranges ∙ sym (append-nil _)) }

pub grows_quoted : (t u : Tree) (q : List ℕ) (n : Node) → Quoted t u q n → Grows t u
grows_quoted t u q n p =
    record { nodes = ([], p.nodes ∙ sym (append-nil _)); bytes = (q, p.bytes); ranges = ([], p.ranges ∙ sym (append-nil _)) }

pub grows_ranged : (t u : Tree) (rs : List Range) → nodes_of u ≡ nodes_of t → bytes_of u ≡ bytes_of t → ranges_of u ≡ ranges_of t ++ rs → Grows t u
grows_ranged t u rs n b r =
    record { nodes = ([], n ∙ sym (append-nil _)); bytes = ([], b ∙ sym (append-nil _)); ranges = (rs, r) }

pushed_at : (t u : Tree) (n : Node) (i : ℕ) → Pushed t u n i → slice_get (nodes_of u) i ≡ Some n
pushed_at t u n i p = ap (λ v. slice_get (nodes_of u) v) p.at ∙ ap (λ v. slice_get v (length (nodes_of t))) p.nodes ∙ nth_last (nodes_of t) n

pub pushed_stands : (t u : Tree) (f : Form) (n : Node) (i : ℕ) → Pushed t u n i → Holds t f n → Stands u f i
pushed_stands t u f n i p h = (n, pushed_at t u n i p, holds_more t u f n (grows_pushed t u n i p) h)

pub pushed_nil : (t u : Tree) (i : ℕ) → Pushed t u node.Nil i → StandAll u nil i
pushed_nil t u i p = pushed_at t u node.Nil i p

pub pushed_cons : (t u : Tree) (f : Form) (fs : Forms) (j k i : ℕ) → Pushed t u (node.Cons j k) i → Stands t f j → StandAll t fs k → StandAll u (cons f fs) i
pushed_cons t u f fs j k i p a b =
    let g = grows_pushed t u _ i p in
    (j, k, pushed_at t u _ i p, stands_more t u f j g a, all_more t u fs k g b)

pub quoted_holds : (t u : Tree) (q : List ℕ) (n : Node) → Quoted t u q n → Holds u (quote q) n
quoted_holds t u q n p =
    let long : length (bytes_of u) ≡ length (bytes_of t) + length q = ap length p.bytes ∙ length-append (bytes_of t) q in
    let e : q ≡ drop (length (bytes_of t)) (bytes_of u) = sym (ap (drop (length (bytes_of t))) p.bytes ∙ drop_at (bytes_of t) q _ refl) in
    (_, _, p.node, (omega arith, omega arith, e ∙ sym (take_all _ _ (simp length-drop (omega arith)))))

-- the items of the ranges behind those of t
pub ranged_pieces : (t u : Tree) (rs : List Range) → ranges_of u ≡ ranges_of t ++ rs → Pieces u (length (ranges_of t)) (length (ranges_of u)) (map item rs)
ranged_pieces t u rs r =
    let long : length (ranges_of u) ≡ length (ranges_of t) + length rs = ap length r ∙ length-append (ranges_of t) rs in
    let all : map item (ranges_of u) ≡ map item (ranges_of t) ++ map item rs = ap (map item) r ∙ map-append item (ranges_of t) rs in
    let e : map item rs ≡ drop (length (ranges_of t)) (map item (ranges_of u)) = sym (ap (drop (length (ranges_of t))) all ∙ drop_at (map item (ranges_of t)) (map item rs) _ (length-map (ranges_of t) item)) in
    (omega arith, simp length-map (omega arith), e ∙ sym (take_all _ _ (simp (length-drop, length-map) (omega arith))))

-- parts that stand in a tree stand before its end
pub stands_within : (t : Tree) (f : Form) (i : ℕ) → Stands t f i → i < length (nodes_of t)
stands_within t f i h = slice_get_within (nodes_of t) i _ h.1

pub all_within : (t : Tree) (fs : Forms) (i : ℕ) → StandAll t fs i → i < length (nodes_of t)
all_within t nil i h = slice_get_within (nodes_of t) i _ h
all_within t (cons f fs) i h = slice_get_within (nodes_of t) i _ h.2

pub holds_falls : (t : Tree) (f : Form) (n : Node) → Holds t f n → falls n (length (nodes_of t)) ≡ true
holds_falls t (quote bytes) n h = ap (λ v. falls v (length (nodes_of t))) h.2
holds_falls t (set is) n h = ap (λ v. falls v (length (nodes_of t))) h.2
holds_falls t (out is) n h = ap (λ v. falls v (length (nodes_of t))) h.2
holds_falls t (seq fs) n h = ap (λ v. falls v (length (nodes_of t))) h.1 ∙ lt-ltb _ _ (all_within t fs _ h.2)
holds_falls t (or fs) n h = ap (λ v. falls v (length (nodes_of t))) h.1 ∙ lt-ltb _ _ (all_within t fs _ h.2)
holds_falls t (star f) n h = ap (λ v. falls v (length (nodes_of t))) h.1 ∙ lt-ltb _ _ (stands_within t f _ h.2)
holds_falls t (rep l m f) n h = ap (λ v. falls v (length (nodes_of t))) h.1 ∙ lt-ltb _ _ (stands_within t f _ h.2)
holds_falls t start n h = ap (λ v. falls v (length (nodes_of t))) h
holds_falls t end n h = ap (λ v. falls v (length (nodes_of t))) h

pub cons_falls : (t : Tree) (f : Form) (fs : Forms) (j k : ℕ) → Stands t f j → StandAll t fs k → falls (node.Cons j k) (length (nodes_of t)) ≡ true
cons_falls t f fs j k a b = and_from _ _ (lt-ltb _ _ (stands_within t f j a)) (lt-ltb _ _ (all_within t fs k b))
