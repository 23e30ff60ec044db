-- What is to be said of a text, its weight apart: its form, or why and where it is refused. Assumes nothing.
use Rattle.std.specs.Prelude.{◌≡◌, ℕ, ◌<◌, ◌≤◌, Bool, true, false, ◌⊎◌, List, [], ◌∷◌, ◌++◌, length, codes}
use Rattle.lexer.specs.Tokens.{Tok, opening, word, Lexes, Ends, Stray, Tokens}
use Rattle.tree.specs.Nodes.{longest}
use Rattle.form.specs.Form.{Form}
use Rattle.grammar.specs.Grammar.{Text}

-- the tokens ts are the beginning of some text of the grammar, with its bounds or without them
abbrev pub Begun : Bool → List Tok → Type 0
Begun k ts = (f : Form) × (us : List Tok) × Text k f (ts ++ us)

-- the text x has the form f
pub record Gives (x : List ℕ) (f : Form) : Type 0 where
  pub tokens : List Tok
  pub to : ℕ
  pub spans : Tokens x tokens 0 to
  pub ends : Ends x to
  pub text : Text true f tokens

-- the text x has the tokens ts up to q, and they are the beginning of some text of the grammar
pub record Before (x : List ℕ) (ts : List Tok) (q : ℕ) : Type 0 where
  pub spans : Tokens x ts 0 q
  pub begun : Begun true ts

-- lawful tokens, and then at s no token
pub record NoToken (x : List ℕ) (s : ℕ) : Type 0 where
  pub tokens : List Tok
  pub to : ℕ
  pub before : Before x tokens to
  pub stray : Stray x to s

-- lawful tokens, and then at s one with which they are the beginning of no text, its bounds left aside
pub record Misplaced (x : List ℕ) (s : ℕ) : Type 0 where
  pub tokens : List Tok
  pub to : ℕ
  pub before : Before x tokens to
  pub token : Tok
  pub past : ℕ
  pub lexes : Lexes x to token s past
  pub never : Begun false (tokens ++ (token ∷ [])) → ⊥

-- lawful tokens that are not yet a text, and then the end, whose place is the text's length
pub record EndsEarly (x : List ℕ) (s : ℕ) : Type 0 where
  pub tokens : List Tok
  pub to : ℕ
  pub before : Before x tokens to
  pub ends : Ends x to
  pub unfinished : (f : Form) → Text true f tokens → ⊥
  pub at : s ≡ length x

-- lawful tokens, and then at s a token t with which they are the beginning of a text that keeps no bounds, and of none that keeps them
pub record Exceeds (x : List ℕ) (t : Tok) (s : ℕ) : Type 0 where
  pub tokens : List Tok
  pub to : ℕ
  pub before : Before x tokens to
  pub past : ℕ
  pub lexes : Lexes x to t s past
  pub loosely : Begun false (tokens ++ (t ∷ []))
  pub never : Begun true (tokens ++ (t ∷ [])) → ⊥

pub data Verdict : Type 0 where
  accepted : Form → Verdict
  too_long : Verdict
  no_token : ℕ → Verdict
  unexpected : ℕ → Verdict
  bad_number : ℕ → Verdict
  too_deep : ℕ → Verdict

-- what a verdict says of the text x, where it is not too long
abbrev pub Says : List ℕ → Verdict → Type 0
Says x (accepted f) = Gives x f
Says x too_long = ⊥
Says x (no_token s) = NoToken x s
Says x (unexpected s) = Misplaced x s ⊎ EndsEarly x s
Says x (bad_number s) = (w : List ℕ) × Exceeds x (word w) s
Says x (too_deep s) = Exceeds x opening s

-- what a verdict says of the text x
abbrev pub Settles : List ℕ → Verdict → Type 0
Settles x v = ((length x ≤ longest) × Says x v) ⊎ ((longest < length x) × (v ≡ too_long))

-- a text has no two verdicts
abbrev pub OneVerdict : List ℕ → Type 0
OneVerdict x = (u v : Verdict) → Settles x u → Settles x v → u ≡ v

-- `(seek)` has an unexpected token at 5
abbrev pub SeekAlone : Type 0
SeekAlone = Settles (codes "(seek)") (unexpected 5)
