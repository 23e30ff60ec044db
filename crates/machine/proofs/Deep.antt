-- Forms as the grammar gives them are no deeper than its bound, and ask for no more carries than they weigh. Assumes nothing.
use Rattle.std.proofs.Common.{◌≡◌, ℕ, ◌+◌, ◌≤◌, true, List, [], ◌∷◌, inl, inr, mul-le-mul_left, arith}
use Rattle.lexer.specs.Tokens.{Tok}
use Rattle.form.specs.Form.{Form, Forms, quote, set, out, seq, or, star, rep, start, end, nil, cons, weight, weights}
use Rattle.grammar.specs.Grammar.{FormAt, FormsAt, Text, deepest}
use Rattle.grammar.specs.Verdicts.{Settles, accepted, too_long}
use Rattle.theory.specs.Written.{written}
use Rattle.program.specs.Numbered.{leaves}
use Rattle.program.specs.Sizes.{brackets, widest, carried, all_carried, Proper, AllProper}
use Rattle.program.proofs.Sizes.{form_carries}

mutual
  deep : (f : Form) (d : ℕ) (ts us : List Tok) → d ≤ deepest → FormAt true f d ts us → d + brackets f ≤ deepest
  deep (quote bytes) d ts us l h = omega arith
  deep (set []) d ts us l h = absurd h
  deep (set (i ∷ is)) d ts us l h = let q = h.1.0 in omega arith
  deep (out is) d ts us l h = let q = h.1.0 in omega arith
  deep (seq fs) d ts us l h = let q = h.1.0 in omega (arith, deep_all fs (d + 1) _ _ (omega arith) h.2)
  deep (or nil) d ts us l h = absurd h
  deep (or (cons f fs)) d ts us l h = let q = h.1.0 in omega (arith, deep_all (cons f fs) (d + 1) _ _ (omega arith) h.2)
  deep (star f) d ts us l h = let q = h.1.0 in omega (arith, deep f (d + 1) _ _ (omega arith) h.2)
  deep (rep m n f) d ts us l h = let q = h.3.0 in omega (arith, deep f (d + 1) _ _ (omega arith) h.7)
  deep start d ts us l h = let q = h.0 in omega arith
  deep end d ts us l h = let q = h.0 in omega arith

  deep_all : (fs : Forms) (d : ℕ) (ts us : List Tok) → d ≤ deepest → FormsAt true fs d ts us → d + widest fs ≤ deepest
  deep_all nil d ts us l h = omega arith
  deep_all (cons f fs) d ts us l h = omega (arith, deep f d _ _ l h.1, deep_all fs d _ _ l h.2)

mutual
  proper : (f : Form) (d : ℕ) (ts us : List Tok) → FormAt true f d ts us → Proper f
  proper (quote bytes) d ts us h = tt
  proper (set []) d ts us h = absurd h
  proper (set (i ∷ is)) d ts us h = tt
  proper (out is) d ts us h = tt
  proper (seq fs) d ts us h = proper_all fs (d + 1) _ _ h.2
  proper (or nil) d ts us h = absurd h
  proper (or (cons f fs)) d ts us h = (tt, proper_all (cons f fs) (d + 1) _ _ h.2)
  proper (star f) d ts us h = proper f (d + 1) _ _ h.2
  proper (rep m n f) d ts us h = (h.6.0, proper f (d + 1) _ _ h.7)
  proper start d ts us h = tt
  proper end d ts us h = tt

  proper_all : (fs : Forms) (d : ℕ) (ts us : List Tok) → FormsAt true fs d ts us → AllProper fs
  proper_all nil d ts us h = tt
  proper_all (cons f fs) d ts us h = (proper f d _ _ h.1, proper_all fs d _ _ h.2)

mutual
  few : (f : Form) → carried f ≤ weight f
  few (quote bytes) = omega arith
  few (set items) = omega arith
  few (out items) = omega arith
  few (seq fs) = omega (arith, few_all fs)
  few (or fs) = omega (arith, few_all fs)
  few (star f) = omega (arith, few f)
  few (rep m n f) = omega (arith, mul-le-mul_left n (few f))
  few start = omega arith
  few end = omega arith

  few_all : (fs : Forms) → all_carried fs ≤ weights fs
  few_all nil = omega arith
  few_all (cons f fs) = omega (arith, few f, few_all fs)

-- the tokens of a text
text_deep : (f : Form) (ts : List Tok) → Text true f ts → brackets f ≤ deepest
text_deep f ts h = omega (arith, deep f 1 _ _ (omega arith) h.2)

text_few : (f : Form) (ts : List Tok) → Text true f ts → leaves (written f) ≤ weight f
text_few f ts h = let e = form_carries f (proper f 1 _ _ h.2) in omega (arith, few f)

not_long : (f : Form) → accepted f ≡ too_long → ⊥
not_long f e = let z : ◌≡◌ {A = ℕ} 0 1 = cc in omega arith

pub read_deep : (x : List ℕ) (f : Form) → Settles x (accepted f) → brackets f ≤ deepest
read_deep x f (inl (l, g)) = text_deep f g.tokens g.text
read_deep x f (inr (l, e)) = absurd (not_long f e)

pub read_few : (x : List ℕ) (f : Form) → Settles x (accepted f) → leaves (written f) ≤ weight f
read_few x f (inl (l, g)) = text_few f g.tokens g.text
read_few x f (inr (l, e)) = absurd (not_long f e)
