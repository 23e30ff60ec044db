-- What every node of a tree keeps. Assumes nothing.
use Rattle.std.specs.Prelude.{ℕ, ◌+◌, Bool, true, ◌&&◌, List, [], ◌∷◌, nat_lt}
use Rattle.refusal.specs.Refusals.{longest_text}
use Rattle.tree.specs.declared.node.Node.{Node}
use Rattle.tree.specs.declared.node.Node.TheVariants.{Quote, Set, Out, Seq, Or, Star, Rep, Start, End, Nil, Cons}

-- how many bytes the longest text has: no text asks for more nodes, quoted bytes or ranges
abbrev pub longest : ℕ
longest = longest_text

-- the parts of the node n stand before i
abbrev pub falls : Node → ℕ → Bool
falls (Quote from to) i = true
falls (Set from to) i = true
falls (Out from to) i = true
falls (Seq parts) i = nat_lt parts i
falls (Or parts) i = nat_lt parts i
falls (Star part) i = nat_lt part i
falls (Rep least most part) i = nat_lt part i
falls Start i = true
falls End i = true
falls Nil i = true
falls (Cons head tail) i = nat_lt head i && nat_lt tail i

-- the parts of each node stand before it, the first node being the one at i
abbrev pub all_fall : ℕ → List Node → Bool
all_fall i [] = true
all_fall i (n ∷ ns) = falls n i && all_fall (i + 1) ns
