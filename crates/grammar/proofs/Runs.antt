-- How the stack of wants runs, and that it runs as the grammar says. Assumes nothing.
use Rattle.std.proofs.Common.{◌≡◌, ℕ, ◌-◌, Bool, true, false, cond, eqb, List, [], ◌∷◌, ◌++◌, Some, None, sum, Option, sym, refl, ap, ◌∙◌, subst}
use Rattle.lexer.specs.Tokens.{Tok}
use Rattle.grammar.specs.Names.{name}
use Rattle.grammar.specs.Grammar.{largest}
use Rattle.grammar.specs.declared.Head.{Head}
use Rattle.grammar.specs.declared.Head.TheVariants.{Set, Out, Seq, Or, Star, Rep, Start, End}
use Rattle.grammar.proofs.Wants.{Want, most, after, Steps, opens, seeks, form_opens, form_quotes, forms_opens, forms_quotes, forms_closes, heads, item_reads, items_reads, items_closes, shuts, least_reads, most_reads, Takes, none, one}

steps_loosely : {w : Want} {t : Tok} {ks : List Want} → Steps true w t ks → Steps false w t ks
steps_loosely opens = opens
steps_loosely (seeks e) = seeks e
steps_loosely (form_opens h) = form_opens tt
steps_loosely form_quotes = form_quotes
steps_loosely (forms_opens h) = forms_opens tt
steps_loosely forms_quotes = forms_quotes
steps_loosely forms_closes = forms_closes
steps_loosely (heads h e) = heads h e
steps_loosely (item_reads i e h) = item_reads i e tt
steps_loosely (items_reads i e h) = items_reads i e tt
steps_loosely items_closes = items_closes
steps_loosely shuts = shuts
steps_loosely (least_reads m e h) = least_reads m e tt
steps_loosely (most_reads n e h) = most_reads n e tt

pub takes_loosely : {ts : List Tok} {σ τ : List Want} → Takes true ts σ τ → Takes false ts σ τ
takes_loosely none = none
takes_loosely (one s a) = one (steps_loosely s) (takes_loosely a)

-- the sum of a name's bytes tells the name
head_of : List ℕ → Option Head
head_of w =
    cond (eqb (sum w) 332) (Some Set) (cond (eqb (sum w) 344) (Some Out) (cond (eqb (sum w) 329) (Some Seq) (cond (eqb (sum w) 225) (Some Or) (cond (eqb (sum w) 442) (Some Star) (cond (eqb (sum w) 327) (Some Rep) (cond (eqb (sum w) 558) (Some Start) (cond (eqb (sum w) 311) (Some End) None)))))))

head_of_name : (h : Head) → head_of (name h) ≡ Some h
unfolding head_of
head_of_name Set = refl
head_of_name Out = refl
head_of_name Seq = refl
head_of_name Or = refl
head_of_name Star = refl
head_of_name Rep = refl
head_of_name Start = refl
head_of_name End = refl

pub one_head : (g h : Head) {w : List ℕ} → w ≡ name g → w ≡ name h → g ≡ h
one_head g h p q = let a = head_of_name g in let b = head_of_name h in let e = ap head_of (sym p ∙ q) in cc

same_number : (m n : ℕ) {o : Option ℕ} → o ≡ Some m → o ≡ Some n → m ≡ n
same_number m n p q = cc

steps_once : (k : Bool) {w : Want} {t : Tok} {ks js : List Want} → Steps k w t ks → Steps k w t js → ks ≡ js
steps_once k opens opens = refl
steps_once k (seeks e) (seeks e') = refl
steps_once k (form_opens h) (form_opens h') = refl
steps_once k form_quotes form_quotes = refl
steps_once k (forms_opens h) (forms_opens h') = refl
steps_once k forms_quotes forms_quotes = refl
steps_once k forms_closes forms_closes = refl
steps_once k (heads {d = d} h e) (heads g e') = ap (after d) (one_head h g e e')
steps_once k (item_reads i e h) (item_reads i' e' h') = refl
steps_once k (items_reads i e h) (items_reads i' e' h') = refl
steps_once k items_closes items_closes = refl
steps_once k shuts shuts = refl
steps_once k (least_reads {d = d} m e h) (least_reads m' e' h') = ap (λ v. most d (largest - v) ∷ []) (same_number m m' e e')
steps_once k (most_reads n e h) (most_reads n' e' h') = refl

pub takes_on : {k : Bool} {pre post : List Tok} {σ τ υ : List Want} → Takes k pre σ τ → Takes k post τ υ → Takes k (pre ++ post) σ υ
takes_on none b = b
takes_on (one s a) b = one s (takes_on a b)

-- what comes behind the first tokens is taken from where they led
pub takes_rest : {k : Bool} (pre post : List Tok) {σ τ υ : List Want} → Takes k pre σ τ → Takes k (pre ++ post) σ υ → Takes k post τ υ
takes_rest [] post none b = b
takes_rest {k} (t ∷ pre) post {σ} {τ} {υ} (one {σ = σ'} s a) (one s' b) =
    takes_rest pre post a (subst (λ v. Takes k (pre ++ post) (v ++ σ') υ) (steps_once k s' s) b)
