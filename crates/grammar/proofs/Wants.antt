-- The grammar as what may come next: a stack of wants. Assumes nothing.
use Rattle.std.proofs.Common.{◌≡◌, ℕ, ◌+◌, ◌-◌, ◌<◌, ◌≤◌, Bool, true, false, List, [], ◌∷◌, ◌++◌, Some, codes}
use Rattle.lexer.specs.Tokens.{Tok, opening, closing, word, quote}
use Rattle.form.specs.Form.{Item}
use Rattle.grammar.specs.Words.{item_of, number_of}
use Rattle.grammar.specs.Names.{name}
use Rattle.grammar.specs.Grammar.{deepest, largest, Kept}
use Rattle.grammar.specs.declared.Head.{Head}
use Rattle.grammar.specs.declared.Head.TheVariants.{Set, Out, Seq, Or, Star, Rep, Start, End}

-- d is the number of brackets that are open
pub data Want : Type 0 where
  -- the bracket of seek, and the word behind it
  top : Want
  seek : Want
  form : ℕ → Want
  -- forms up to a closing bracket, and that
  forms : ℕ → Want
  -- the word behind an opening bracket, and what it asks for
  heading : ℕ → Want
  item : Want
  -- items up to a closing bracket, and that
  items : Want
  -- a closing bracket
  shut : Want
  -- the two numbers of a rep, its form and its closing bracket; the second number is told by how far the first was below the largest
  least : ℕ → Want
  most : ℕ → ℕ → Want

-- what a word asks for
abbrev pub after : ℕ → Head → List Want
after d Set = item ∷ items ∷ []
after d Out = items ∷ []
after d Seq = forms d ∷ []
after d Or = form d ∷ forms d ∷ []
after d Star = form d ∷ shut ∷ []
after d Rep = least d ∷ []
after d Start = shut ∷ []
after d End = shut ∷ []

-- the want w takes the token t, and ks is wanted in its place
pub data Steps (k : Bool) : Want → Tok → List Want → Type 0 where
  opens : Steps k top opening (seek ∷ [])
  seeks : {w : List ℕ} → w ≡ codes "seek" → Steps k seek (word w) (form 1 ∷ shut ∷ [])
  form_opens : {d : ℕ} → Kept k (d < deepest) → Steps k (form d) opening (heading (d + 1) ∷ [])
  form_quotes : {d : ℕ} {q : List ℕ} → Steps k (form d) (quote q) []
  forms_opens : {d : ℕ} → Kept k (d < deepest) → Steps k (forms d) opening (heading (d + 1) ∷ forms d ∷ [])
  forms_quotes : {d : ℕ} {q : List ℕ} → Steps k (forms d) (quote q) (forms d ∷ [])
  forms_closes : {d : ℕ} → Steps k (forms d) closing []
  heads : {d : ℕ} {w : List ℕ} (h : Head) → w ≡ name h → Steps k (heading d) (word w) (after d h)
  item_reads : {w : List ℕ} (i : Item) → item_of w ≡ Some i → Kept k (i.low ≤ i.high) → Steps k item (word w) []
  items_reads : {w : List ℕ} (i : Item) → item_of w ≡ Some i → Kept k (i.low ≤ i.high) → Steps k items (word w) (items ∷ [])
  items_closes : Steps k items closing []
  shuts : Steps k shut closing []
  least_reads : {d : ℕ} {w : List ℕ} (m : ℕ) → number_of w ≡ Some m → Kept k (m ≤ largest) → Steps k (least d) (word w) (most d (largest - m) ∷ [])
  most_reads : {d r : ℕ} {w : List ℕ} (n : ℕ) → number_of w ≡ Some n → Kept k ((largest ≤ n + r) × (n ≤ largest)) → Steps k (most d r) (word w) (form d ∷ shut ∷ [])

-- the tokens ts take the wants σ to τ
pub data Takes (k : Bool) : List Tok → List Want → List Want → Type 0 where
  none : {σ : List Want} → Takes k [] σ σ
  one : {t : Tok} {ts : List Tok} {w : Want} {ks σ τ : List Want} → Steps k w t ks → Takes k ts (ks ++ σ) τ → Takes k (t ∷ ts) (w ∷ σ) τ

-- the want w takes words alone
pub record Wordy (w : Want) : Type 0 where
  pub words : (k : Bool) (t : Tok) (ks : List Want) → Steps k w t ks → (u : List ℕ) × (t ≡ word u)

-- the want w takes numbers alone, from m to the largest, and any where no bound is kept
pub record Numeric (w : Want) (m : ℕ) : Type 0 where
  pub wordy : Wordy w
  pub spells : (k : Bool) (u : List ℕ) (ks : List Want) → Steps k w (word u) ks → (n : ℕ) × (number_of u ≡ Some n)
  pub bounds : (u : List ℕ) (n : ℕ) (ks : List Want) → Steps true w (word u) ks → number_of u ≡ Some n → (m ≤ n) × (n ≤ largest)
  pub any : (u : List ℕ) (n : ℕ) → number_of u ≡ Some n → (ks : List Want) × Steps false w (word u) ks
