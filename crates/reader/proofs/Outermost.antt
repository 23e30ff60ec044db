-- A whole text, from its parts. Assumes nothing.
use Rattle.std.proofs.Common.{◌≡◌, ℕ, Bool, true, false, not, List, [], ◌∷◌, codes, sym, refl, ap, ◌∙◌, subst, arith}
use Rattle.std.specs.Str.{bytes_eq}
use Rattle.std.proofs.lemmas.Bool.{both_ways}
use Rattle.std.proofs.lemmas.Slice.Eq.{bytes_eq-Decides}
use Rattle.lexer.specs.declared.Token.{Token}
use Rattle.lexer.specs.declared.Token.TheVariants as token
use Rattle.lexer.specs.Tokens.{opening, word, Lexes, Ends, Tokens, Next}
use Rattle.grammar.specs.Verdicts.{Verdict, Says, Gives}
use Rattle.tree.specs.declared.store.Tree.{Tree}
use Rattle.grammar.proofs.Wants.{top, seek, form, shut, one, opens, seeks, shuts}
use Rattle.grammar.proofs.Past.{past}
use Rattle.grammar.proofs.Refusals.{Refused}
use Rattle.grammar.proofs.Going.{on_token, beyond}
use Rattle.grammar.proofs.Laws.{refused_says}
use Rattle.reader.specs.Reading.{SingleRead}

-- what the test for a word tells
pub same_word : (w s v : List ℕ) (b : Bool) → b ≡ not (bytes_eq w s) → s ≡ v → b ≡ false → w ≡ v
same_word w s v b e is h = (bytes_eq-Decides w s).0 (unless (bytes_eq w s) (sym e ∙ h)) ∙ is
  where
    unless : (t : Bool) → not t ≡ false → t ≡ true
    unless true h = refl
    unless false h = sym h

pub other_word : (w s v : List ℕ) (b : Bool) → b ≡ not (bytes_eq w s) → s ≡ v → b ≡ true → w ≡ v → ⊥
other_word w s v b e is g h =
    let same : bytes_eq w s ≡ true = (bytes_eq-Decides w s).1 (h ∙ sym is) in
    both_ways b (e ∙ ap not same) g

-- what is read inside the outermost bracket
pub at_one : {x : List ℕ} {p q d i : ℕ} {t u : Tree} → d ≡ 1 → SingleRead x p q d t u i → SingleRead x p q 1 t u i
at_one {x} {p} {q} {d} {i} {t} {u} e b = subst (λ v. SingleRead x p q v t u i) e b

pub at_first : {x y : List ℕ} {a : ℕ} (v : Verdict) → a ≡ 0 → y ≡ x → Refused y a (top ∷ []) v → Says x v
at_first {x} {y} v first whole r =
    refused_says x v (subst (λ u. Refused u 0 (top ∷ []) v) whole (subst (λ u. Refused y u (top ∷ []) v) first r))

-- x is the text, and y, z and o are what the calls know it as
module _ {x y z : List ℕ} {a s m : ℕ} (l : Lexes y a opening s m) (first : a ≡ 0) (whole : y ≡ x) (same : z ≡ y) where
  pub after_open : (v : Verdict) → Refused z m (seek ∷ []) v → Says x v
  after_open v r = at_first v first whole (on_token opening top (seek ∷ []) [] v l opens same r)

  module _ {o : List ℕ} {w : List ℕ} {i n : ℕ} (k : Lexes z m (word w) i n) (is : w ≡ codes "seek") (alike : o ≡ z) where
    pub after_seek : {d : ℕ} (v : Verdict) → d ≡ 1 → Refused o n (form d ∷ shut ∷ []) v → Says x v
    after_seek v at r = after_open v (on_token (word w) seek (form 1 ∷ shut ∷ []) [] v k (seeks is) alike (subst (λ e. Refused o n (form e ∷ shut ∷ []) v) at r))

    module _ {q j : ℕ} {t u : Tree} (b : SingleRead o n q 1 t u j) where
      pub after_single : {c : List ℕ} (v : Verdict) → c ≡ o → Refused c q [] v → Says x v
      after_single v like r =
          after_seek v refl (beyond _ (form 1 ∷ shut ∷ []) [] v (λ ts us ρ f h. past b.form f (one shuts h)) refl b.reads like r)

      pub gives : {c : List ℕ} (d e : ℕ) (t : Token) → t ≡ token.End → c ≡ o → Next t c q d e → Gives x b.form
      gives {c} d e t end like h =
          let g = b.reads [] q refl in
          let to-x : o ≡ x = alike ∙ same ∙ whole in
          let end-at = subst (λ v. Next v c q d e) end h in
          record {
            tokens = opening ∷ word w ∷ g.0;
            to = q;
            spans = (s, m, subst (λ v. Lexes x v opening s m) first (subst (λ v. Lexes v a opening s m) whole l), (i, n, subst (λ v. Lexes v m (word w) i n) (same ∙ whole) k, subst (λ v. Tokens v g.0 n q) to-x g.1));
            ends = subst (λ v. Ends v q) (like ∙ to-x) end-at.0;
            text = (g.0, (omega arith, ap (λ v. opening ∷ word v ∷ g.0) is), g.2);
          }
