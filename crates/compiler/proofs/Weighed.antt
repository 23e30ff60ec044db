-- What a form weighs, from its node and what its parts weigh. Assumes nothing.
use Rattle.std.proofs.Common.{◌≡◌, ℕ, zero, suc, ◌+◌, ◌-◌, ◌*◌, ◌<◌, length, sym, refl, ap, ◌∙◌, subst, ◌⊎◌, inl, inr, ⊎_elim, suc-mul, zero-mul, arith}
use Rattle.std.proofs.lemmas.Bool.{cases_lt}
use Rattle.std.proofs.lemmas.List.{length-take, length-drop}
use Rattle.form.specs.Form.{Form, Forms, weight, weights}
use Rattle.tree.specs.declared.node.Node.{Node}
use Rattle.tree.specs.declared.node.Node.TheVariants as node
use Rattle.tree.specs.declared.store.Tree.{Tree}
use Rattle.tree.specs.Stands.{StandAll, Stands}
use Rattle.tree.proofs.Shapes.{Shape, a_quote, a_set, an_out, a_seq, an_or, a_star, a_rep, a_start, an_end, Row, no_form, a_form, no_nil, no_cons}
use Rattle.limits.specs.Limits.{heaviest}
use Rattle.compiler.specs.Limit.{capped}

pub quote_weighs : {t : Tree} {f : Form} (a e : ℕ) → Shape t f (node.Quote a e) → capped (1 + (e - a)) ≡ capped (weight f)
quote_weighs {t} a e (a_quote p) = ap (λ v. capped (1 + v)) (sym (ap length p.2 ∙ simp (length-take, length-drop) (omega (arith, p.0, p.1))))

set_one : {t : Tree} {f : Form} (a e : ℕ) → Shape t f (node.Set a e) → 1 ≡ capped (weight f)
set_one a e (a_set p) = refl

out_one : {t : Tree} {f : Form} (a e : ℕ) → Shape t f (node.Out a e) → 1 ≡ capped (weight f)
out_one a e (an_out p) = refl

start_one : {t : Tree} {f : Form} → Shape t f node.Start → 1 ≡ capped (weight f)
start_one a_start = refl

end_one : {t : Tree} {f : Form} → Shape t f node.End → 1 ≡ capped (weight f)
end_one an_end = refl

-- a leaf
pub one_weighs : {t : Tree} {f : Form} {n : Node} → ((a : ℕ) × (e : ℕ) × (n ≡ node.Set a e)) ⊎ (((a : ℕ) × (e : ℕ) × (n ≡ node.Out a e)) ⊎ ((n ≡ node.Start) ⊎ (n ≡ node.End))) → Shape t f n → 1 ≡ capped (weight f)
one_weighs {t} {f} (inl s) h = set_one s.0 s.1 (subst (Shape t f) s.2 h)
one_weighs {t} {f} (inr (inl o)) h = out_one o.0 o.1 (subst (Shape t f) o.2 h)
one_weighs {t} {f} (inr (inr (inl e))) h = start_one (subst (Shape t f) e h)
one_weighs {t} {f} (inr (inr (inr e))) h = end_one (subst (Shape t f) e h)

-- a list is no form
pub list_weighs : {t : Tree} {f : Form} {n : Node} → (n ≡ node.Nil) ⊎ ((i : ℕ) × (j : ℕ) × (n ≡ node.Cons i j)) → Shape t f n → 0 ≡ capped (weight f)
list_weighs {t} {f} (inl e) h = absurd (no_nil (subst (Shape t f) e h))
list_weighs {t} {f} (inr c) h = absurd (no_cons c.0 c.1 (subst (Shape t f) c.2 h))

seq_weighs : {t : Tree} {f : Form} (i r : ℕ) → Shape t f (node.Seq i) → ((fs : Forms) → StandAll t fs i → r ≡ capped (weights fs)) → capped (1 + r) ≡ capped (weight f)
seq_weighs i r (a_seq {fs = fs} h) w = let e = w fs h in omega arith

or_weighs : {t : Tree} {f : Form} (i r : ℕ) → Shape t f (node.Or i) → ((fs : Forms) → StandAll t fs i → r ≡ capped (weights fs)) → capped (1 + r) ≡ capped (weight f)
or_weighs i r (an_or {fs = fs} h) w = let e = w fs h in omega arith

-- a form over a list of forms
pub parts_weigh : {t : Tree} {f : Form} {n : Node} (i r : ℕ) → (n ≡ node.Seq i) ⊎ (n ≡ node.Or i) → ((fs : Forms) → StandAll t fs i → r ≡ capped (weights fs)) → Shape t f n → capped (1 + r) ≡ capped (weight f)
parts_weigh {t} {f} i r (inl e) w h = seq_weighs i r (subst (Shape t f) e h) w
parts_weigh {t} {f} i r (inr e) w h = or_weighs i r (subst (Shape t f) e h) w

pub star_weighs : {t : Tree} {f : Form} (i r : ℕ) → Shape t f (node.Star i) → ((g : Form) → Stands t g i → r ≡ capped (weight g)) → capped (1 + r) ≡ capped (weight f)
star_weighs i r (a_star {f = f} h) w = let e = w f h in omega arith

-- a weight cut off past the limit tells as much of a repetition as the whole weight
many : (n p : ℕ) → heaviest + 1 < p → capped (1 + n * capped p) ≡ capped (1 + n * p)
many zero p h = rw (zero-mul, zero-mul)
many (suc n) p h = omega (arith, suc-mul n (capped p), suc-mul n p)

rep_capped : (n p : ℕ) → capped (1 + n * capped p) ≡ capped (1 + n * p)
rep_capped n p =
    ⊎_elim (λ h. many n p h) (λ h. let e : capped p ≡ p = omega arith in ap (λ v. capped (1 + n * v)) e) (cases_lt (heaviest + 1) p)

pub rep_weighs : {t : Tree} {f : Form} (l m i r : ℕ) → Shape t f (node.Rep l m i) → ((g : Form) → Stands t g i → r ≡ capped (weight g)) → capped (1 + m * r) ≡ capped (weight f)
rep_weighs l m i r (a_rep {f = f} h) w = ap (λ v. capped (1 + m * v)) (w f h) ∙ rep_capped m (weight f)

pub row_weighs : {t : Tree} {fs : Forms} (i j r s : ℕ) → Row t fs (node.Cons i j) → ((f : Form) → Stands t f i → r ≡ capped (weight f)) → ((gs : Forms) → StandAll t gs j → s ≡ capped (weights gs)) → capped (r + s) ≡ capped (weights fs)
row_weighs i j r s (a_form {f = f} {fs = fs} a b) w v = let d = w f a in let e = v fs b in omega arith

-- what is no list but the empty one
pub not_a_cons : {t : Tree} {fs : Forms} {n : Node} → Row t fs n → ((i j : ℕ) → n ≡ node.Cons i j → ⊥) → 0 ≡ capped (weights fs)
not_a_cons no_form h = refl
not_a_cons (a_form {i = i} {j = j} a b) h = absurd (h i j refl)
