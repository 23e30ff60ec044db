-- Parts that stand before their node. Assumes nothing.
use Rattle.std.proofs.Common.{◌≡◌, ℕ, zero, suc, ◌+◌, true, List, [], ◌∷◌, ◌++◌, length, Option, Some, None, IfSome, sym, refl, subst, arith}
use Rattle.std.specs.List.{slice_get}
use Rattle.std.proofs.lemmas.Bool.{and_parts, and_from}
use Rattle.std.proofs.lemmas.Option.{none-some}
use Rattle.tree.specs.declared.node.Node.{Node}
use Rattle.tree.specs.Nodes.{falls, all_fall}

read_falls : (i : ℕ) (ns : List Node) (k : ℕ) (n : Node) → all_fall i ns ≡ true → slice_get ns k ≡ Some n → falls n (i + k) ≡ true
read_falls i [] k n h e = absurd (none-some n e)
read_falls i (m ∷ ns) zero n h e =
    let same : m ≡ n = cc in
    let at : i ≡ i + 0 = omega arith in
    subst (λ v. falls n v ≡ true) at (subst (λ v. falls v i ≡ true) same (and_parts _ _ h).0)
read_falls i (m ∷ ns) (suc k) n h e =
    let at : (i + 1) + k ≡ i + suc k = omega arith in
    subst (λ v. falls n v ≡ true) at (read_falls (i + 1) ns k n (and_parts _ _ h).1 e)

-- at what is read
pub read_at : (ns : List Node) (k : ℕ) (o : Option Node) → all_fall 0 ns ≡ true → o ≡ slice_get ns k → IfSome o (λ n. falls n k ≡ true)
read_at ns k None h e = tt
read_at ns k (Some n) h e =
    let at : 0 + k ≡ k = omega arith in
    subst (λ v. falls n v ≡ true) at (read_falls 0 ns k n h (sym e))

push_falls : (i : ℕ) (ns : List Node) (n : Node) → all_fall i ns ≡ true → falls n (i + length ns) ≡ true → all_fall i (ns ++ n ∷ []) ≡ true
push_falls i [] n h f = let at : i + 0 ≡ i = omega arith in and_from _ _ (subst (λ v. falls n v ≡ true) at f) refl
push_falls i (m ∷ ns) n h f =
    let at : i + suc (length ns) ≡ (i + 1) + length ns = omega arith in
    and_from _ _ (and_parts _ _ h).0 (push_falls (i + 1) ns n (and_parts _ _ h).1 (subst (λ v. falls n v ≡ true) at f))

-- behind a push
pub pushed_falls : (ns ms : List Node) (n : Node) (k : ℕ) → all_fall 0 ns ≡ true → ms ≡ ns ++ n ∷ [] → k ≡ length ns → falls n k ≡ true → all_fall 0 ms ≡ true
pushed_falls ns ms n k h e at f =
    let from : k ≡ 0 + length ns = omega arith in
    subst (λ v. all_fall 0 v ≡ true) (sym e) (push_falls 0 ns n h (subst (λ v. falls n v ≡ true) from f))
