-- Tokens have one form at most. Assumes nothing.
use Rattle.std.proofs.Common.{◌≡◌, ℕ, ◌+◌, Bool, List, [], ◌∷◌, Some, Option, sym, refl, ap, ◌∙◌, subst, arith}
use Rattle.lexer.specs.Tokens.{Tok, opening, closing, word, quote}
use Rattle.form.specs.Form.{Form, Forms, Item, quote as quoted, set, out, seq, or, star, rep, start, end, nil, cons}
use Rattle.grammar.specs.Words.{item_of, number_of}
use Rattle.grammar.specs.Names.{name}
use Rattle.grammar.specs.Grammar.{ItemsAt, FormAt, FormsAt, Text}
use Rattle.grammar.specs.declared.Head.{Head}
use Rattle.grammar.specs.declared.Head.TheVariants.{Set, Out, Seq, Or, Star, Rep, Start, End}
use Rattle.grammar.proofs.Runs.{one_head}

-- the grammar without its bounds, by the word behind the bracket
mutual
  data FormIn : Form → List Tok → List Tok → Type 0 where
    a_quote : {q : List ℕ} {us : List Tok} → FormIn (quoted q) (quote q ∷ us) us
    headed : {f : Form} {w : List ℕ} {ts us : List Tok} (h : Head) → w ≡ name h → BodyIn h f ts us → FormIn f (opening ∷ word w ∷ ts) us

  data BodyIn : Head → Form → List Tok → List Tok → Type 0 where
    a_set : {is : List Item} {ts us : List Tok} (k : Bool) → ItemsAt k is ts us → BodyIn Set (set is) ts us
    an_out : {is : List Item} {ts us : List Tok} (k : Bool) → ItemsAt k is ts us → BodyIn Out (out is) ts us
    a_seq : {fs : Forms} {ts us : List Tok} → FormsIn fs ts us → BodyIn Seq (seq fs) ts us
    an_or : {fs : Forms} {ts us : List Tok} → FormsIn fs ts us → BodyIn Or (or fs) ts us
    a_star : {f : Form} {ts us : List Tok} → FormIn f ts (closing ∷ us) → BodyIn Star (star f) ts us
    a_rep : {m n : ℕ} {f : Form} {v w : List ℕ} {ts us : List Tok} → number_of v ≡ Some m → number_of w ≡ Some n → FormIn f ts (closing ∷ us) → BodyIn Rep (rep m n f) (word v ∷ word w ∷ ts) us
    a_start : {us : List Tok} → BodyIn Start start (closing ∷ us) us
    an_end : {us : List Tok} → BodyIn End end (closing ∷ us) us

  data FormsIn : Forms → List Tok → List Tok → Type 0 where
    no_form : {us : List Tok} → FormsIn nil (closing ∷ us) us
    a_form : {f : Form} {fs : Forms} {ts vs us : List Tok} → FormIn f ts vs → FormsIn fs vs us → FormsIn (cons f fs) ts us

from : {f : Form} {ts vs us : List Tok} → ts ≡ vs → FormIn f vs us → FormIn f ts us
from {f} {us = us} e a = subst (λ v. FormIn f v us) (sym e) a

mutual
  form_in : (k : Bool) (f : Form) (d : ℕ) (ts us : List Tok) → FormAt k f d ts us → FormIn f ts us
  form_in k (quoted q) d ts us a = from a a_quote
  form_in k (set []) d ts us a = absurd a
  form_in k (set (i ∷ is)) d ts us a = from a.1.1 (headed Set refl (a_set k a.2))
  form_in k (out is) d ts us a = from a.1.1 (headed Out refl (an_out k a.2))
  form_in k (seq fs) d ts us a = from a.1.1 (headed Seq refl (a_seq (forms_in k fs (d + 1) _ us a.2)))
  form_in k (or fs) d ts us a = or_in k fs d ts us a
  form_in k (star f) d ts us a = from a.1.1 (headed Star refl (a_star (form_in k f (d + 1) _ (closing ∷ us) a.2)))
  form_in k (rep m n f) d ts us a =
      from a.3.1 (headed Rep refl (a_rep a.4 a.5 (form_in k f (d + 1) _ (closing ∷ us) a.7)))
  form_in k start d ts us a = from a.1 (headed Start refl a_start)
  form_in k end d ts us a = from a.1 (headed End refl an_end)

  or_in : (k : Bool) (fs : Forms) (d : ℕ) (ts us : List Tok) → FormAt k (or fs) d ts us → FormIn (or fs) ts us
  or_in k nil d ts us a = absurd a
  or_in k (cons f fs) d ts us a =
      from a.1.1 (headed Or refl (an_or (a_form (form_in k f (d + 1) _ _ a.2.1) (forms_in k fs (d + 1) _ us a.2.2))))

  forms_in : (k : Bool) (fs : Forms) (d : ℕ) (ts us : List Tok) → FormsAt k fs d ts us → FormsIn fs ts us
  forms_in k nil d ts us a = subst (λ v. FormsIn nil v us) (sym a) no_form
  forms_in k (cons f fs) d ts us a = a_form (form_in k f d ts _ a.1) (forms_in k fs d _ us a.2)

same : {A : Type 0} {o : Option A} (x y : A) → o ≡ Some x → o ≡ Some y → x ≡ y
same x y p q = cc

mismatch : {w : List ℕ} {ts us vs : List Tok} → ts ≡ closing ∷ us → ts ≡ word w ∷ vs → ⊥
mismatch p q = let z : ◌≡◌ {A = ℕ} 0 1 = cc in omega arith

same_word : {v w : List ℕ} {ts us vs : List Tok} → ts ≡ word v ∷ us → ts ≡ word w ∷ vs → (v ≡ w) × (us ≡ vs)
same_word p q = (cc, cc)

items_once : (k j : Bool) (is js : List Item) (ts us vs : List Tok) → ItemsAt k is ts us → ItemsAt j js ts vs → (is ≡ js) × (us ≡ vs)
items_once k j [] [] ts us vs a b = (refl, cc)
items_once k j [] (i ∷ js) ts us vs a b = absurd (mismatch a b.2)
items_once k j (i ∷ is) [] ts us vs a b = absurd (mismatch b a.2)
items_once k j (i ∷ is) (l ∷ js) ts us vs a b =
    let e = same_word a.2 b.2 in
    let one = same i l a.3 (ap item_of e.0 ∙ b.3) in
    let r = items_once k j is js a.1 us vs a.5 (subst (λ v. ItemsAt j js v vs) (sym e.1) b.5) in
    (ap (λ v. v ∷ is) one ∙ ap (λ v. l ∷ v) r.0, r.1)

tail : {us vs : List Tok} → (closing ∷ us) ≡ (closing ∷ vs) → us ≡ vs
tail e = cc

mutual
  form_once : {f g : Form} {ts us vs : List Tok} → FormIn f ts us → FormIn g ts vs → (f ≡ g) × (us ≡ vs)
  form_once a_quote a_quote = (refl, refl)
  form_once (headed h e a) (headed {f = g} {ts = ts} {us = vs} i p b) = body_once a (subst (λ v. BodyIn v g ts vs) (one_head i h p e) b)

  body_once : {h : Head} {f g : Form} {ts us vs : List Tok} → BodyIn h f ts us → BodyIn h g ts vs → (f ≡ g) × (us ≡ vs)
  body_once (a_set k a) (a_set j b) = let r = items_once k j _ _ _ _ _ a b in (ap set r.0, r.1)
  body_once (an_out k a) (an_out j b) = let r = items_once k j _ _ _ _ _ a b in (ap out r.0, r.1)
  body_once (a_seq a) (a_seq b) = let r = forms_once a b in (ap seq r.0, r.1)
  body_once (an_or a) (an_or b) = let r = forms_once a b in (ap or r.0, r.1)
  body_once (a_star a) (a_star b) = let r = form_once a b in (ap star r.0, tail r.1)
  body_once (a_rep {m = m} {n = n} {f = f} p q a) (a_rep {m = i} {n = j} {f = g} s t b) =
      let r = form_once a b in
      (ap (λ v. rep v n f) (same m i p s) ∙ ap (λ v. rep i v f) (same n j q t) ∙ ap (rep i j) r.0, tail r.1)
  body_once a_start a_start = (refl, refl)
  body_once an_end an_end = (refl, refl)

  forms_once : {fs gs : Forms} {ts us vs : List Tok} → FormsIn fs ts us → FormsIn gs ts vs → (fs ≡ gs) × (us ≡ vs)
  forms_once no_form no_form = (refl, refl)
  forms_once no_form (a_form a b) = elim a [ ]
  forms_once (a_form a b) no_form = elim a [ ]
  forms_once (a_form {f = f} {fs = fs} a b) (a_form {f = g} {fs = gs} {us = vs} c d) =
      let r = form_once a c in
      let s = forms_once b (subst (λ v. FormsIn gs v vs) (sym r.1) d) in
      (ap (λ v. cons v fs) r.0 ∙ ap (cons g) s.0, s.1)

pub text_once : (k j : Bool) (f g : Form) (ts : List Tok) → Text k f ts → Text j g ts → f ≡ g
text_once k j f g ts a b =
    let vs : a.0 ≡ b.0 = rest a.1.1 b.1.1 in
    (form_once (form_in k f 1 _ _ a.2) (subst (λ v. FormIn g v (closing ∷ [])) (sym vs) (form_in j g 1 _ _ b.2))).0
  where
    rest : {w : List ℕ} {ts us vs : List Tok} → ts ≡ opening ∷ word w ∷ us → ts ≡ opening ∷ word w ∷ vs → us ≡ vs
    rest p q = cc
