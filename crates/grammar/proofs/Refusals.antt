-- Why a text cannot go on, by what is wanted there. Assumes nothing.
use Rattle.std.proofs.Common.{◌≡◌, ℕ, Bool, true, false, ◌⊎◌, List, [], ◌∷◌, length}
use Rattle.lexer.specs.Tokens.{Tok, opening, word, Lexes, Ends, Stray, Tokens}
use Rattle.grammar.specs.Verdicts.{Verdict, accepted, too_long, no_token, unexpected, bad_number, too_deep}
use Rattle.grammar.proofs.Wants.{Want, Takes}

-- at s stands the token t, with which no wants go on
pub record Stuck (k : Bool) (x : List ℕ) (q : ℕ) (σ : List Want) (t : Tok) (s : ℕ) : Type 0 where
  pub past : ℕ
  pub lexes : Lexes x q t s past
  pub never : (ρ : List Want) → Takes k (t ∷ []) σ ρ → ⊥

-- the wants σ do not go on with the token t at s, and would if no bound were kept
abbrev pub Over : List ℕ → ℕ → List Want → Tok → ℕ → Type 0
Over x q σ t s = Stuck true x q σ t s × ((ρ : List Want) × Takes false (t ∷ []) σ ρ)

-- why the text cannot go on from q, where σ is wanted
abbrev pub Fault : List ℕ → ℕ → List Want → Verdict → Type 0
Fault x q σ (accepted f) = ⊥
Fault x q σ too_long = ⊥
Fault x q σ (no_token s) = Stray x q s
Fault x q σ (unexpected s) = ((t : Tok) × Stuck false x q σ t s) ⊎ (Ends x q × (s ≡ length x) × (σ ≡ [] → ⊥))
Fault x q σ (bad_number s) = (w : List ℕ) × Over x q σ (word w) s
Fault x q σ (too_deep s) = Over x q σ opening s

-- from p on, with the wants σ, the text's tokens go on lawfully up to some place, and not from there
pub record Refused (x : List ℕ) (p : ℕ) (σ : List Want) (v : Verdict) : Type 0 where
  pub tokens : List Tok
  pub to : ℕ
  pub left : List Want
  pub spans : Tokens x tokens p to
  pub takes : Takes true tokens σ left
  pub fault : Fault x to left v
