-- Tables that grow by the sets of classes. Assumes nothing.
use Rattle.std.proofs.Common.{◌≡◌, ℕ, zero, suc, ◌+◌, ◌-◌, ◌*◌, ◌≤◌, Bool, true, false, cond, eqb, leb, List, [], ◌∷◌, ◌++◌, map, length, take, drop, sym, refl, ap, ◌∙◌, subst, append_assoc, append-nil, suc-mul, arith, length-append}
use Rattle.std.proofs.lemmas.Bool.{eqb-false}
use Rattle.std.proofs.lemmas.List.{take-map, drop-map, length-map}
use Rattle.form.specs.Form.{Form, Forms, Item, quote, set, out, seq, or, star, rep, start, end, nil, cons, weight, weights}
use Rattle.form.specs.Meaning.{inside, outside}
use Rattle.form.specs.Positions.{only}
use Rattle.theory.specs.Written.{nothing, or_nothing, classes, all_classes}
use Rattle.tree.specs.declared.node.Node.{Node}
use Rattle.tree.specs.declared.node.Node.TheVariants as node
use Rattle.tree.specs.declared.node.Range.{Range}
use Rattle.tree.specs.declared.store.Tree.{Tree}
use Rattle.tree.specs.Stands.{item, bytes_of, ranges_of, Pieces, StandAll, Stands}
use Rattle.stream.specs.declared.set.ByteSet.{ByteSet}
use Rattle.limits.specs.Limits.{heaviest}
use Rattle.classes.specs.Numbered.{sets_of, Is, Are, Adds, Filled}
use Rattle.classes.specs.declared.table.ClassTable.{ClassTable}
use Rattle.tree.proofs.Shapes.{Shape, a_quote, a_set, an_out, a_seq, an_or, a_star, a_rep, a_start, an_end, Row, no_form, a_form}

pub are_long : (sets : List ByteSet) (cs : List (ℕ → Bool)) → Are sets cs → length sets ≡ length cs
are_long [] [] h = refl
are_long [] (c ∷ cs) h = absurd h
are_long (s ∷ sets) [] h = absurd h
are_long (s ∷ sets) (c ∷ cs) h = ap suc (are_long sets cs h.1)

are_join : (a b : List ByteSet) (cs ds : List (ℕ → Bool)) → Are a cs → Are b ds → Are (a ++ b) (cs ++ ds)
are_join [] b [] ds h k = k
are_join [] b (c ∷ cs) ds h k = absurd h
are_join (s ∷ a) b [] ds h k = absurd h
are_join (s ∷ a) b (c ∷ cs) ds h k = (h.0, are_join a b cs ds h.1 k)

none_adds : (t u : ClassTable) → sets_of u ≡ sets_of t → Adds t u []
none_adds t u e r = record { more = []; holds = e ∙ sym (append-nil (sets_of t)); sets = tt }

pub put_adds : (t u : ClassTable) (s : ByteSet) (f : ℕ → Bool) → (length (sets_of t) + 1 ≤ heaviest → sets_of u ≡ sets_of t ++ s ∷ []) → Is s f → Adds t u (f ∷ [])
put_adds t u s f h is r = record { more = s ∷ []; holds = h (omega arith); sets = (is, tt) }

pub join_adds : (t u v : ClassTable) (cs ds : List (ℕ → Bool)) → Adds t u cs → Adds u v ds → Adds t v (cs ++ ds)
join_adds t u v cs ds a b room =
    let l = length-append cs ds in
    let x = a (omega arith) in
    let long : length (sets_of u) ≡ length (sets_of t) + length cs = ap length x.holds ∙ length-append (sets_of t) x.more ∙ ap (λ n. length (sets_of t) + n) (are_long x.more cs x.sets) in
    let y = b (omega arith) in
    record {
      more = x.more ++ y.more;
      holds = y.holds ∙ ap (λ l. l ++ y.more) x.holds ∙ append_assoc (sets_of t) x.more y.more;
      sets = are_join x.more y.more cs ds x.sets y.sets;
    }

-- the items of a piece of the ranges are a piece of the items
items_of : (t : Tree) (a e : ℕ) (is : List Item) (rs : List Range) → Pieces t a e is → (e ≤ length (ranges_of t) → rs ≡ take (e - a) (drop a (ranges_of t))) → map item rs ≡ is
items_of t a e is rs p h =
    let l = length-map (ranges_of t) item in
    ap (map item) (h (omega (arith, p.1)))
    ∙ sym (p.2 ∙ ap (take (e - a)) (drop-map item a (ranges_of t)) ∙ take-map item (e - a) (drop a (ranges_of t)))

module _ (x y : ClassTable) where
  pub quote_adds : {t : Tree} {f : Form} (a e : ℕ) (bs : List ℕ) → Shape t f (node.Quote a e) → (e ≤ length (bytes_of t) → bs ≡ take (e - a) (drop a (bytes_of t))) → Adds x y (map only bs) → Adds x y (classes f)
  quote_adds a e bs (a_quote p) h k = subst (λ l. Adds x y (map only l)) (h p.1 ∙ sym p.2) k

  pub set_adds : {t : Tree} {f : Form} (a e : ℕ) (rs : List Range) (s : ByteSet) → Shape t f (node.Set a e) → (e ≤ length (ranges_of t) → rs ≡ take (e - a) (drop a (ranges_of t)))
      → Is s (inside (map item rs)) → (length (sets_of x) + 1 ≤ heaviest → sets_of y ≡ sets_of x ++ s ∷ []) → Adds x y (classes f)
  set_adds {t} a e rs s (a_set {is = is} p) h k w = put_adds x y s (inside is) w (subst (λ l. Is s (inside l)) (items_of t a e is rs p h) k)

  pub out_adds : {t : Tree} {f : Form} (a e : ℕ) (rs : List Range) (s : ByteSet) → Shape t f (node.Out a e) → (e ≤ length (ranges_of t) → rs ≡ take (e - a) (drop a (ranges_of t)))
      → Is s (outside (map item rs)) → (length (sets_of x) + 1 ≤ heaviest → sets_of y ≡ sets_of x ++ s ∷ []) → Adds x y (classes f)
  out_adds {t} a e rs s (an_out {is = is} p) h k w = put_adds x y s (outside is) w (subst (λ l. Is s (outside l)) (items_of t a e is rs p h) k)

  pub seq_adds : {t : Tree} {f : Form} (i : ℕ) → Shape t f (node.Seq i) → ((fs : Forms) → StandAll t fs i → Adds x y (all_classes fs)) → Adds x y (classes f)
  seq_adds i (a_seq {fs = fs} h) k = k fs h

  pub or_adds : {t : Tree} {f : Form} (i : ℕ) → Shape t f (node.Or i) → ((fs : Forms) → StandAll t fs i → Adds x y (or_nothing fs (all_classes fs))) → Adds x y (classes f)
  or_adds i (an_or {fs = fs} h) k = k fs h

  pub star_adds : {t : Tree} {f : Form} (i : ℕ) → Shape t f (node.Star i) → ((g : Form) → Stands t g i → Adds x y (classes g)) → Adds x y (classes f)
  star_adds i (a_star {f = g} h) k = k g h

  pub rep_adds : {t : Tree} {f : Form} (l m i : ℕ) → Shape t f (node.Rep l m i) → ((g : Form) → Stands t g i → Adds x y (classes (rep l m g))) → Adds x y (classes f)
  rep_adds l m i (a_rep {f = g} h) k = k g h

  pub start_adds : {t : Tree} {f : Form} → Shape t f node.Start → sets_of y ≡ sets_of x → Adds x y (classes f)
  start_adds a_start e = none_adds x y e

  pub end_adds : {t : Tree} {f : Form} → Shape t f node.End → sets_of y ≡ sets_of x → Adds x y (classes f)
  end_adds an_end e = none_adds x y e

module _ (x y z : ClassTable) where
  pub cons_adds : {t : Tree} {fs : Forms} (i j : ℕ) → Row t fs (node.Cons i j) → ((f : Form) → Stands t f i → Adds x y (classes f)) → ((gs : Forms) → StandAll t gs j → Adds y z (all_classes gs)) → Adds x z (all_classes fs)
  cons_adds i j (a_form {f = f} {fs = gs} a b) k l = join_adds x y z (classes f) (all_classes gs) (k f a) (l gs b)

  pub any_adds : {t : Tree} {fs : Forms} (i j : ℕ) → Row t fs (node.Cons i j) → ((f : Form) → Stands t f i → Adds x y (classes f)) → ((gs : Forms) → StandAll t gs j → Adds y z (all_classes gs)) → Adds x z (or_nothing fs (all_classes fs))
  any_adds i j (a_form {f = f} {fs = gs} a b) k l = join_adds x y z (classes f) (all_classes gs) (k f a) (l gs b)

module _ (x y : ClassTable) where
  pub nil_adds : {t : Tree} {fs : Forms} {n : Node} → Row t fs n → ((i j : ℕ) → n ≡ node.Cons i j → ⊥) → sets_of y ≡ sets_of x → Adds x y (all_classes fs)
  nil_adds no_form h e = none_adds x y e
  nil_adds (a_form {i = i} {j = j} a b) h e = absurd (h i j refl)

-- ---- as many classes as a form weighs, at most

some_times : (n w : ℕ) → (n ≡ 0 → ⊥) → w ≤ n * w
some_times zero w h = absurd (h refl)
some_times (suc n) w h = omega (arith, suc-mul n w)

mutual
  pub few : (F : Form) → length (classes F) ≤ weight F
  few (quote bytes) = omega (arith, length-map bytes only)
  few (set items) = omega arith
  few (out items) = omega arith
  few (seq parts) = omega (arith, few_all parts)
  few (or parts) = few_any parts
  few (star part) = omega (arith, few part)
  few (rep least most part) = go (leb least most) (eqb most 0) refl (few part)
    where
      go : (a b : Bool) → eqb most 0 ≡ b → length (classes part) ≤ weight part → length (cond a (cond b [] (classes part)) (nothing ∷ [])) ≤ 1 + most * weight part
      go true true e h = omega arith
      go true false e h = omega (arith, some_times most (weight part) (λ z. eqb-false most 0 e z))
      go false b e h = omega arith
  few start = omega arith
  few end = omega arith

  few_all : (fs : Forms) → length (all_classes fs) ≤ weights fs
  few_all nil = omega arith
  few_all (cons f fs) = omega (arith, few f, few_all fs, length-append (classes f) (all_classes fs))

  few_any : (fs : Forms) → length (or_nothing fs (all_classes fs)) ≤ 1 + weights fs
  few_any nil = omega arith
  few_any (cons f fs) = omega (arith, few f, few_all fs, length-append (classes f) (all_classes fs))

-- an empty table is filled by what is added to it
pub filled : (t u : ClassTable) (F : Form) → sets_of t ≡ [] → weight F ≤ heaviest → Adds t u (classes F) → Filled u (classes F)
filled t u F e w h =
    let f = few F in
    let x = h (omega (arith, ap length e)) in
    subst (λ l. Are l (classes F)) (sym (x.holds ∙ ap (λ l. l ++ x.more) e)) x.sets
