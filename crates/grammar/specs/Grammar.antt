-- The grammar: which tokens stand for which form. Assumes nothing.
-- `FormAt k f d ts us` reads: inside d brackets, the tokens ts begin with those of the form f, and us are left.
-- Where k is true the bounds on depth and numbers are kept; where it is false they are not asked for, which tells a token
-- that breaks a bound from one that has no place in the grammar at all.
use Rattle.std.specs.Prelude.{◌≡◌, ℕ, ◌+◌, ◌<◌, ◌≤◌, Bool, true, false, List, [], ◌∷◌, Some, codes}
use Rattle.lexer.specs.Tokens.{Tok, opening, closing, word, quote}
use Rattle.form.specs.Form.{Form, Forms, Item, quote as quoted, set, out, seq, or, star, rep, start, end, nil, cons}
use Rattle.grammar.specs.Words.{item_of, number_of}

-- how deep brackets nest at most, that of seek being the first
abbrev pub deepest : ℕ
deepest = 16

-- how often a part is repeated at most
abbrev pub largest : ℕ
largest = 255

-- a bound that is kept, or not asked for
abbrev pub Kept : Bool → Type 0 → Type 0
Kept true P = P
Kept false P = Unit {0}

-- an opening bracket inside d others, and the word w behind it
abbrev pub Headed : Bool → List ℕ → ℕ → List Tok → List Tok → Type 0
Headed k w d ts us = Kept k (d < deepest) × (ts ≡ opening ∷ word w ∷ us)

-- items, none of them falling, and a closing bracket
abbrev pub ItemsAt : Bool → List Item → List Tok → List Tok → Type 0
ItemsAt k [] ts us = ts ≡ closing ∷ us
ItemsAt k (i ∷ is) ts us =
    (w : List ℕ) × (vs : List Tok) × (ts ≡ word w ∷ vs) × (item_of w ≡ Some i) × Kept k (i.low ≤ i.high) × ItemsAt k is vs us

abbrev mutual
  pub FormAt : Bool → Form → ℕ → List Tok → List Tok → Type 0
  FormAt k (quoted bytes) d ts us = ts ≡ quote bytes ∷ us
  FormAt k (set []) d ts us = ⊥
  FormAt k (set (i ∷ is)) d ts us = (vs : List Tok) × Headed k (codes "set") d ts vs × ItemsAt k (i ∷ is) vs us
  FormAt k (out is) d ts us = (vs : List Tok) × Headed k (codes "out") d ts vs × ItemsAt k is vs us
  FormAt k (seq fs) d ts us = (vs : List Tok) × Headed k (codes "seq") d ts vs × FormsAt k fs (d + 1) vs us
  FormAt k (or nil) d ts us = ⊥
  FormAt k (or (cons f fs)) d ts us = (vs : List Tok) × Headed k (codes "or") d ts vs × FormsAt k (cons f fs) (d + 1) vs us
  FormAt k (star f) d ts us = (vs : List Tok) × Headed k (codes "star") d ts vs × FormAt k f (d + 1) vs (closing ∷ us)
  FormAt k (rep m n f) d ts us =
      (v : List ℕ) × (w : List ℕ) × (vs : List Tok) × Headed k (codes "rep") d ts (word v ∷ word w ∷ vs)
      × (number_of v ≡ Some m) × (number_of w ≡ Some n) × Kept k ((m ≤ n) × (n ≤ largest)) × FormAt k f (d + 1) vs (closing ∷ us)
  FormAt k start d ts us = Headed k (codes "start") d ts (closing ∷ us)
  FormAt k end d ts us = Headed k (codes "end") d ts (closing ∷ us)

  -- forms, and a closing bracket
  pub FormsAt : Bool → Forms → ℕ → List Tok → List Tok → Type 0
  FormsAt k nil d ts us = ts ≡ closing ∷ us
  FormsAt k (cons f fs) d ts us = (vs : List Tok) × FormAt k f d ts vs × FormsAt k fs d vs us

-- the tokens ts are `(seek F)`
abbrev pub Text : Bool → Form → List Tok → Type 0
Text k f ts = (vs : List Tok) × Headed k (codes "seek") 0 ts vs × FormAt k f 1 vs (closing ∷ [])
