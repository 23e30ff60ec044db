-- Which form a node of a tree stands for. Assumes nothing.
use Rattle.std.specs.Prelude.{◌≡◌, ℕ, ◌-◌, ◌≤◌, List, [], ◌∷◌, ◌++◌, map, length, take, drop, Some, vec_items}
use Rattle.std.specs.List.{slice_get}
use Rattle.form.specs.Form.{Form, Forms, Item, quote, set, out, seq, or, star, rep, start, end, nil, cons}
use Rattle.tree.specs.declared.node.Node.{Node}
use Rattle.tree.specs.declared.node.Node.TheVariants as node
use Rattle.tree.specs.declared.node.Range.{Range}
use Rattle.tree.specs.declared.store.Tree.{Tree}

abbrev pub nodes_of : Tree → List Node
nodes_of t = vec_items t.nodes

abbrev pub bytes_of : Tree → List ℕ
bytes_of t = vec_items t.bytes

abbrev pub ranges_of : Tree → List Range
ranges_of t = vec_items t.ranges

abbrev pub item : Range → Item
item r = record { low = r.low; high = r.high }

-- from a up to e the list xs holds ys
abbrev pub Piece : {X : Type 0} → List X → ℕ → ℕ → List X → Type 0
Piece xs a e ys = (a ≤ e) × (e ≤ length xs) × (ys ≡ take (e - a) (drop a xs))

-- the items of the ranges from a up to e
abbrev pub Pieces : Tree → ℕ → ℕ → List Item → Type 0
Pieces t a e is = Piece (map item (ranges_of t)) a e is

-- at i stands a node of which P holds
abbrev pub At : Tree → ℕ → (Node → Type 0) → Type 0
At t i P = (n : Node) × (slice_get (nodes_of t) i ≡ Some n) × P n

abbrev mutual
  -- the node n is that of the form f
  pub Holds : Tree → Form → Node → Type 0
  Holds t (quote bytes) n = (a : ℕ) × (e : ℕ) × (n ≡ node.Quote a e) × Piece (bytes_of t) a e bytes
  Holds t (set items) n = (a : ℕ) × (e : ℕ) × (n ≡ node.Set a e) × Pieces t a e items
  Holds t (out items) n = (a : ℕ) × (e : ℕ) × (n ≡ node.Out a e) × Pieces t a e items
  Holds t (seq parts) n = (i : ℕ) × (n ≡ node.Seq i) × StandAll t parts i
  Holds t (or parts) n = (i : ℕ) × (n ≡ node.Or i) × StandAll t parts i
  Holds t (star part) n = (i : ℕ) × (n ≡ node.Star i) × At t i (λ m. Holds t part m)
  Holds t (rep least most part) n = (i : ℕ) × (n ≡ node.Rep least most i) × At t i (λ m. Holds t part m)
  Holds t start n = n ≡ node.Start
  Holds t end n = n ≡ node.End

  -- the node i stands for the list of forms fs
  pub StandAll : Tree → Forms → ℕ → Type 0
  StandAll t nil i = slice_get (nodes_of t) i ≡ Some node.Nil
  StandAll t (cons f fs) i =
      (j : ℕ) × (k : ℕ) × (slice_get (nodes_of t) i ≡ Some (node.Cons j k)) × At t j (λ m. Holds t f m) × StandAll t fs k

-- the node i stands for the form f
abbrev pub Stands : Tree → Form → ℕ → Type 0
Stands t f i = At t i (λ n. Holds t f n)

-- u holds what t holds, and maybe more behind it
pub record Grows (t u : Tree) : Type 0 where
  pub nodes : (more : List Node) × (nodes_of u ≡ nodes_of t ++ more)
  pub bytes : (more : List ℕ) × (bytes_of u ≡ bytes_of t ++ more)
  pub ranges : (more : List Range) × (ranges_of u ≡ ranges_of t ++ more)

-- t and u hold the same
pub record Same (t u : Tree) : Type 0 where
  pub nodes : nodes_of u ≡ nodes_of t
  pub bytes : bytes_of u ≡ bytes_of t
  pub ranges : ranges_of u ≡ ranges_of t

-- u holds what t holds, and n behind its nodes, at i
pub record Pushed (t u : Tree) (n : Node) (i : ℕ) : Type 0 where
  pub at : i ≡ length (nodes_of t)
  pub nodes : nodes_of u ≡ nodes_of t ++ n ∷ []
  pub bytes : bytes_of u ≡ bytes_of t
  pub ranges : ranges_of u ≡ ranges_of t

-- u holds what t holds, and q behind its bytes, to which n refers
pub record Quoted (t u : Tree) (q : List ℕ) (n : Node) : Type 0 where
  pub node : n ≡ node.Quote (length (bytes_of t)) (length (bytes_of u))
  pub nodes : nodes_of u ≡ nodes_of t
  pub bytes : bytes_of u ≡ bytes_of t ++ q
  pub ranges : ranges_of u ≡ ranges_of t

-- u holds what t holds, and r behind its ranges
pub record Ranged (t u : Tree) (r : Range) : Type 0 where
  pub nodes : nodes_of u ≡ nodes_of t
  pub bytes : bytes_of u ≡ bytes_of t
  pub ranges : ranges_of u ≡ ranges_of t ++ r ∷ []
