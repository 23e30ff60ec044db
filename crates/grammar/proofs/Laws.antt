-- A refusal by the wants is one by the grammar. Assumes nothing.
use Rattle.std.proofs.Common.{◌≡◌, ℕ, Bool, true, false, List, [], ◌∷◌, ◌++◌, sym, refl, subst, inl, inr, ⊎_elim, append_assoc, append-nil}
use Rattle.lexer.specs.Tokens.{Tok, opening, word, Tokens}
use Rattle.grammar.specs.Verdicts.{Begun, Before, Exceeds, Says, Verdict, accepted, too_long, no_token, unexpected, bad_number, too_deep}
use Rattle.grammar.proofs.Wants.{Want, top, Takes, none, one}
use Rattle.grammar.proofs.Runs.{takes_loosely, takes_on, takes_rest}
use Rattle.grammar.proofs.Past.{past_text, completes}
use Rattle.grammar.proofs.Sound.{text_met}
use Rattle.grammar.proofs.Refusals.{Over, Fault, Refused}

-- tokens that the wants take are the beginning of a text
begun : (k : Bool) (ts : List Tok) (σ : List Want) → Takes k ts (top ∷ []) σ → Begun k ts
begun k ts σ a =
    let r = completes k σ in
    let m = text_met k (ts ++ r.0) (takes_on a r.1) in
    (m.0, r.0, m.1)

first_stuck : {k : Bool} {t : Tok} {us : List Tok} {σ τ : List Want} → Takes k (t ∷ us) σ τ → ((ρ : List Want) → Takes k (t ∷ []) σ ρ → ⊥) → ⊥
first_stuck (one s a) never = never _ (one s none)

-- tokens with which the wants do not go on are the beginning of none
blocked : (k : Bool) (ts : List Tok) (t : Tok) (σ : List Want) → Takes k ts (top ∷ []) σ → ((ρ : List Want) → Takes k (t ∷ []) σ ρ → ⊥) → Begun k (ts ++ (t ∷ [])) → ⊥
blocked k ts t σ a never b =
    let all = subst (λ v. Takes k v (top ∷ []) []) (append_assoc ts (t ∷ []) b.1) (past_text b.0 b.2) in
    first_stuck (takes_rest ts (t ∷ b.1) a all) never

over : {σ : List Want} → Takes true [] σ [] → σ ≡ []
over none = refl

module _ (x : List ℕ) (ts : List Tok) (q : ℕ) (σ : List Want) (spans : Tokens x ts 0 q) (a : Takes true ts (top ∷ []) σ) where
  before : Before x ts q
  before = record { spans = spans; begun = begun true ts σ a }

  exceeds : (t : Tok) (s : ℕ) → Over x q σ t s → Exceeds x t s
  exceeds t s o =
      record { tokens = ts; to = q; before = before; past = o.0.past; lexes = o.0.lexes; loosely = begun false (ts ++ (t ∷ [])) o.1.0 (takes_on (takes_loosely a) o.1.1); never = blocked true ts t σ a o.0.never }

  says : (v : Verdict) → Fault x q σ v → Says x v
  says (accepted f) h = absurd h
  says too_long h = h
  says (no_token s) h = record { tokens = ts; to = q; before = before; stray = h }
  says (unexpected s) h =
      ⊎_elim
      (λ l. inl (record { tokens = ts; to = q; before = before; token = l.0; past = l.1.past; lexes = l.1.lexes; never = blocked false ts l.0 σ (takes_loosely a) l.1.never }))
      (λ r. inr (record { tokens = ts; to = q; before = before; ends = r.0; unfinished = λ f t. r.2 (over (takes_rest ts [] a (subst (λ v. Takes true v (top ∷ []) []) (sym (append-nil ts)) (past_text f t)))); at = r.1 }))
      h
  says (bad_number s) h = (h.0, exceeds (word h.0) s h.1)
  says (too_deep s) h = exceeds opening s h

pub refused_says : (x : List ℕ) (v : Verdict) → Refused x 0 (top ∷ []) v → Says x v
refused_says x v r = says x r.tokens r.to r.left r.spans r.takes v r.fault
