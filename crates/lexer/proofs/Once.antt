-- What stands at a place of a text stands there once. Assumes nothing.
use Rattle.std.proofs.Common.{◌≡◌, ℕ, ◌+◌, ◌<◌, true, cond, eqb, ◌⊎◌, List, [], ◌∷◌, ◌++◌, length, get_or, sym, refl, ap, ◌∙◌, subst, inl, inr, ⊎_elim, arith}
use Rattle.std.proofs.lemmas.Bool.{cases_order, both_ways}
use Rattle.std.proofs.lemmas.Bool.Decides.{nat_tests}
use Rattle.lexer.specs.declared.Class.{Class}
use Rattle.lexer.specs.declared.Class.TheVariants.{Space, Letter, Quoted}
use Rattle.lexer.specs.Tokens.{in_class, part, Run, Tok, opening, closing, word, quote, TokenAt, Lexes, Ends, Stray, EndAt, Tokens}

no_later : (c : Class) (x : List ℕ) (a e f : ℕ) → Run c x a e → Run c x a f → e < f → ⊥
no_later c x a e f r s h =
    both_ways (in_class c (get_or x e 0)) (r.stops (omega (arith, s.within))) (s.all e h r.rises)

run_once : (c : Class) (x : List ℕ) (a e f : ℕ) → Run c x a e → Run c x a f → e ≡ f
run_once c x a e f r s =
    ⊎_elim (λ same. same) (λ apart. ⊎_elim (λ h. absurd (no_later c x a e f r s h)) (λ h. absurd (no_later c x a f e s r h)) apart) (cases_order e f)

-- the byte with which a token begins tells its kind
abbrev kind_of : ℕ → ℕ
kind_of b = cond (eqb b 40) 0 (cond (eqb b 41) 1 (cond (eqb b 34) 2 3))

abbrev kind : Tok → ℕ
kind opening = 0
kind closing = 1
kind (quote q) = 2
kind (word w) = 3

letter_kind : (b : ℕ) → in_class Letter b ≡ true → (kind_of b ≡ 3) × (b ≡ 10 → ⊥)
letter_kind b h = (grind (arith, nat_tests), λ e. grind (arith, nat_tests))

record Begins (x : List ℕ) (s k : ℕ) : Type 0 where
  inside : s < length x
  byte : kind_of (get_or x s 0) ≡ k
  feed : get_or x s 0 ≡ 10 → ⊥

begins : (t : Tok) (x : List ℕ) (s e : ℕ) → TokenAt t x s e → Begins x s (kind t)
begins opening x s e a = record { inside = a.inside; byte = ap kind_of a.byte; feed = λ f. omega (arith, a.byte) }
begins closing x s e a = record { inside = a.inside; byte = ap kind_of a.byte; feed = λ f. omega (arith, a.byte) }
begins (word w) x s e a =
    let h = letter_kind (get_or x s 0) (a.run.all s a.some (omega arith)) in
    record { inside = omega (arith, a.some, a.run.within); byte = h.0; feed = h.1 }
begins (quote q) x s e a = record { inside = a.inside; byte = ap kind_of a.byte; feed = λ f. omega (arith, a.byte) }

pub no_end : (t : Tok) (x : List ℕ) (s e : ℕ) → TokenAt t x s e → EndAt x s → ⊥
no_end t x s e a h = let b = begins t x s e a in ⊎_elim (λ over. omega (arith, b.inside)) (λ last. b.feed last.1) h

same_kind : (t u : Tok) (x : List ℕ) (s e f : ℕ) → TokenAt t x s e → TokenAt u x s f → kind t ≡ kind u
same_kind t u x s e f a b = sym (begins t x s e a).byte ∙ (begins u x s f b).byte

token_once : (t u : Tok) (x : List ℕ) (s e f : ℕ) → TokenAt t x s e → TokenAt u x s f → (t ≡ u) × (e ≡ f)
token_once opening opening x s e f a b = (refl, a.to ∙ sym b.to)
token_once opening closing x s e f a b = absurd (omega (arith, same_kind opening closing x s e f a b))
token_once opening (word w) x s e f a b = absurd (omega (arith, same_kind opening (word w) x s e f a b))
token_once opening (quote q) x s e f a b = absurd (omega (arith, same_kind opening (quote q) x s e f a b))
token_once closing opening x s e f a b = absurd (omega (arith, same_kind closing opening x s e f a b))
token_once closing closing x s e f a b = (refl, a.to ∙ sym b.to)
token_once closing (word w) x s e f a b = absurd (omega (arith, same_kind closing (word w) x s e f a b))
token_once closing (quote q) x s e f a b = absurd (omega (arith, same_kind closing (quote q) x s e f a b))
token_once (word w) opening x s e f a b = absurd (omega (arith, same_kind (word w) opening x s e f a b))
token_once (word w) closing x s e f a b = absurd (omega (arith, same_kind (word w) closing x s e f a b))
token_once (word w) (word v) x s e f a b =
    let same = run_once Letter x s e f a.run b.run in
    (ap word (a.text ∙ ap (part x s) same ∙ sym b.text), same)
token_once (word w) (quote q) x s e f a b = absurd (omega (arith, same_kind (word w) (quote q) x s e f a b))
token_once (quote q) opening x s e f a b = absurd (omega (arith, same_kind (quote q) opening x s e f a b))
token_once (quote q) closing x s e f a b = absurd (omega (arith, same_kind (quote q) closing x s e f a b))
token_once (quote q) (word w) x s e f a b = absurd (omega (arith, same_kind (quote q) (word w) x s e f a b))
token_once (quote q) (quote r) x s e f a b =
    let same = run_once Quoted x (s + 1) a.shut b.shut a.run b.run in
    (ap quote (a.text ∙ ap (part x (s + 1)) same ∙ sym b.text), a.to ∙ ap (λ v. v + 1) same ∙ sym b.to)

pub lexes_once : (t u : Tok) (x : List ℕ) (p s r e f : ℕ) → Lexes x p t s e → Lexes x p u r f → (t ≡ u) × (s ≡ r) × (e ≡ f)
lexes_once t u x p s r e f a b =
    let same = run_once Space x p s r a.skips b.skips in
    let h = token_once t u x s e f a.token (subst (λ v. TokenAt u x v f) (sym same) b.token) in
    (h.0, same, h.1)

pub lexes_no_end : (t : Tok) (x : List ℕ) (p s e : ℕ) → Lexes x p t s e → Ends x p → ⊥
lexes_no_end t x p s e a b =
    let same = run_once Space x p s b.from a.skips b.skips in
    no_end t x s e a.token (subst (λ v. EndAt x v) (sym same) b.last)

pub lexes_no_stray : (t : Tok) (x : List ℕ) (p s e r : ℕ) → Lexes x p t s e → Stray x p r → ⊥
lexes_no_stray t x p s e r a b =
    let same = run_once Space x p s r a.skips b.skips in
    b.none t e (subst (λ v. TokenAt t x v e) same a.token)

pub ends_no_stray : (x : List ℕ) (p r : ℕ) → Ends x p → Stray x p r → ⊥
ends_no_stray x p r a b = b.more (subst (λ v. EndAt x v) (run_once Space x p a.from r a.skips b.skips) a.last)

pub stray_once : (x : List ℕ) (p s r : ℕ) → Stray x p s → Stray x p r → s ≡ r
stray_once x p s r a b = run_once Space x p s r a.skips b.skips

-- ts is followed at q by a token with which us goes on
pub record Longer (x : List ℕ) (ts us : List Tok) (q : ℕ) : Type 0 where
  pub token : Tok
  pub more : List Tok
  pub start : ℕ
  pub past : ℕ
  pub lexes : Lexes x q token start past
  pub is : us ≡ ts ++ (token ∷ more)

-- two rows of tokens from one place: they are the same, or one goes on where the other ends
pub compare_tokens : (x : List ℕ) (ts us : List Tok) (p q r : ℕ) → Tokens x ts p q → Tokens x us p r → ((ts ≡ us) × (q ≡ r)) ⊎ (Longer x ts us q ⊎ Longer x us ts r)
compare_tokens x [] [] p q r a b = inl (refl, sym a ∙ b)
compare_tokens x [] (u ∷ us) p q r a b =
    inr (inl (record { token = u; more = us; start = b.0; past = b.1; lexes = subst (λ v. Lexes x v u b.0 b.1) a b.2; is = refl }))
compare_tokens x (t ∷ ts) [] p q r a b =
    inr (inr (record { token = t; more = ts; start = a.0; past = a.1; lexes = subst (λ v. Lexes x v t a.0 a.1) b a.2; is = refl }))
compare_tokens x (t ∷ ts) (u ∷ us) p q r a b =
    let h = lexes_once t u x p a.0 b.0 a.1 b.1 a.2 b.2 in
    let rest = compare_tokens x ts us a.1 q r a.3 (subst (λ v. Tokens x us v r) (sym h.2) b.3) in
    ⊎_elim
    (λ e. inl (ap (λ v. v ∷ ts) h.0 ∙ ap (λ v. u ∷ v) e.0, e.1))
    (λ l. inr (⊎_elim
    (λ m. inl (record { token = m.token; more = m.more; start = m.start; past = m.past; lexes = m.lexes; is = ap (λ v. v ∷ us) (sym h.0) ∙ ap (λ v. t ∷ v) m.is }))
    (λ m. inr (record { token = m.token; more = m.more; start = m.start; past = m.past; lexes = m.lexes; is = ap (λ v. v ∷ ts) h.0 ∙ ap (λ v. u ∷ v) m.is }))
    l))
    rest
