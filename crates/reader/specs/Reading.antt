-- What the parts of the reader have read; the contracts of its private functions cite this. Assumes nothing.
use Rattle.std.specs.Prelude.{◌≡◌, ℕ, ◌+◌, ◌<◌, ◌≤◌, true, List, ◌∷◌, ◌++◌, map, length, Some}
use Rattle.form.specs.Form.{Form, Forms, cons}
use Rattle.lexer.specs.Tokens.{Tok, opening, closing, word, Tokens}
use Rattle.lexer.specs.declared.Lexer.{Lexer}
use Rattle.lexer.specs.Places.{text_of, place_of}
use Rattle.grammar.specs.Words.{item_of, number_of}
use Rattle.grammar.specs.Grammar.{deepest, largest, ItemsAt, FormAt, FormsAt}
use Rattle.grammar.proofs.Wants.{Want}
use Rattle.grammar.proofs.Refusals.{Refused}
use Rattle.reader.specs.Faults.{verdict}
use Rattle.reader.specs.declared.fault.FormFault.{FormFault}
use Rattle.tree.specs.declared.node.Node.{Node}
use Rattle.tree.specs.declared.node.Range.{Range}
use Rattle.tree.specs.declared.store.Tree.{Tree}
use Rattle.tree.specs.Nodes.{longest}
use Rattle.tree.specs.Stands.{nodes_of, bytes_of, ranges_of, item, Holds, Stands, StandAll, Grows, Ranged}

-- the tokens from p to q are those of P, whatever follows
abbrev pub Between : (List Tok → List Tok → Type 0) → List ℕ → ℕ → ℕ → Type 0
Between P x p q = (us : List Tok) (r : ℕ) → Tokens x us q r → (ts : List Tok) × Tokens x ts p r × P ts us

-- what the tree t holds is no more than the p bytes read so far can ask for
pub record RoomAt (x : List ℕ) (t : Tree) (p : ℕ) : Type 0 where
  pub short : length x ≤ longest
  pub nodes : length (nodes_of t) ≤ p
  pub bytes : length (bytes_of t) ≤ p
  pub ranges : length (ranges_of t) ≤ p

-- the same of a lexer that has read so far
abbrev pub Room : Lexer → Tree → Type 0
Room l t = RoomAt (text_of l) t (place_of l)

-- what P says of a lexer's text, from where it was to where it is
abbrev pub Over {ℓ} : {A : Type ℓ} → (List ℕ → ℕ → ℕ → A) → Lexer → Lexer → A
Over P l m = P (text_of l) (place_of l) (place_of m)

-- the text is refused for the fault e at the lexer's place, where the wants ws are next, whatever is wanted behind them
abbrev pub Refuses : Lexer → List Want → FormFault → Type 0
Refuses l ws e = (σ : List Want) → Refused (text_of l) (place_of l) (ws ++ σ) (verdict e)

-- a number from m to the largest
pub record CountRead (x : List ℕ) (p q m n : ℕ) : Type 0 where
  pub reads : Between (λ ts us. (w : List ℕ) × (ts ≡ word w ∷ us) × (number_of w ≡ Some n)) x p q
  pub least : m ≤ n
  pub most : n ≤ largest
  pub on : p < q

-- two numbers, neither of them past the largest and the first not past the second
pub record CountsRead (x : List ℕ) (p q m n : ℕ) : Type 0 where
  pub reads :
      Between (λ ts us. (v : List ℕ) × (w : List ℕ) × (ts ≡ word v ∷ word w ∷ us) × (number_of v ≡ Some m) × (number_of w ≡ Some n)) x p q
  pub bounds : (m ≤ n) × (n ≤ largest)
  pub on : p < q

pub record ItemRead (x : List ℕ) (p q : ℕ) (t u : Tree) : Type 0 where
  pub range : Range
  pub ranged : Ranged t u range
  pub reads : Between (λ ts us. (w : List ℕ) × (ts ≡ word w ∷ us) × (item_of w ≡ Some (item range)) × (range.low ≤ range.high)) x p q
  pub on : p < q
  pub room : length (ranges_of u) ≤ q

-- the items of the ranges that are kept, and a closing bracket
pub record ItemsRead (x : List ℕ) (p q : ℕ) (t u : Tree) (kept : List Range) : Type 0 where
  pub nodes : nodes_of u ≡ nodes_of t
  pub bytes : bytes_of u ≡ bytes_of t
  pub ranges : ranges_of u ≡ ranges_of t ++ kept
  pub reads : Between (ItemsAt true (map item kept)) x p q
  pub on : p < q
  pub room : length (ranges_of u) ≤ q

-- what a part of the text from p to q has added to the tree t, now u: no more than its bytes can ask for, and one node less in a form
pub record Added (p q less : ℕ) (t u : Tree) : Type 0 where
  pub grows : Grows t u
  pub on : p < q
  pub nodes : length (nodes_of u) + p + less ≤ length (nodes_of t) + q
  pub bytes : length (bytes_of u) ≤ q
  pub ranges : length (ranges_of u) ≤ q

-- what follows an opening bracket, d being open with it
pub record HeadedRead (x : List ℕ) (p q d : ℕ) (t u : Tree) (n : Node) : Type 0 where
  pub form : Form
  pub holds : Holds u form n
  pub reads : (c : ℕ) → d ≡ c + 1 → c < deepest → Between (λ ts us. FormAt true form c (opening ∷ ts) us) x p q
  pub added : Added p q 1 t u

-- a form inside d brackets
pub record FormRead (x : List ℕ) (p q d : ℕ) (t u : Tree) (i : ℕ) : Type 0 where
  pub form : Form
  pub stands : Stands u form i
  pub reads : Between (FormAt true form d) x p q
  pub added : Added p q 1 t u

-- a form inside d brackets, and the closing bracket of the last
pub record SingleRead (x : List ℕ) (p q d : ℕ) (t u : Tree) (i : ℕ) : Type 0 where
  pub form : Form
  pub stands : Stands u form i
  pub reads : Between (λ ts us. FormAt true form d ts (closing ∷ us)) x p q
  pub added : Added p q 1 t u

-- forms inside d brackets, and the closing bracket of the last
pub record ListRead (x : List ℕ) (p q d : ℕ) (t u : Tree) (i : ℕ) : Type 0 where
  pub forms : Forms
  pub stand : StandAll u forms i
  pub reads : Between (FormsAt true forms d) x p q
  pub added : Added p q 0 t u

-- the same with at least one form
pub record SomeRead (x : List ℕ) (p q d : ℕ) (t u : Tree) (i : ℕ) : Type 0 where
  pub first : Form
  pub rest : Forms
  pub stand : StandAll u (cons first rest) i
  pub reads : Between (FormsAt true (cons first rest) d) x p q
  pub added : Added p q 0 t u
