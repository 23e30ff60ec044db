-- One number changed, and rows compared. Assumes nothing.
use Rattle.std.proofs.Common.{◌≡◌, ℕ, Bool, true, false, cond, ◌||◌, List, [], ◌∷◌, sym, refl, ap, ◌∙◌}
use Rattle.std.proofs.lemmas.Bool.{eq-eqb, ne_eqb, and_parts, false≢true}
use Rattle.block.specs.Rows.{bit}
use Rattle.block.specs.Calls.{or_row}
use Rattle.block.proofs.Rows.{bit_tab, tab_ext}
use Rattle.program.specs.Machine.{put, equal, same}

module _ {X : Type 0} (f : ℕ → X) (r : ℕ) (v : X) where
  pub put_same : put f r v r ≡ v
  unfolding put
  put_same = ap (λ b. cond b v (f r)) (eq-eqb r r refl)

  pub put_other : (i : ℕ) → (i ≡ r → ⊥) → put f r v i ≡ f i
  unfolding put
  put_other i h = ap (λ b. cond b v (f i)) (ne_eqb i r h)

equal_is : (x y : Bool) → equal x y ≡ true → x ≡ y
equal_is true true e = refl
equal_is true false e = absurd (false≢true e)
equal_is false true e = absurd (false≢true e)
equal_is false false e = refl

pub same_is : (x y : List Bool) → same x y ≡ true → x ≡ y
unfolding same
same_is [] [] e = refl
same_is [] (b ∷ y) e = absurd (false≢true e)
same_is (a ∷ x) [] e = absurd (false≢true e)
same_is (a ∷ x) (b ∷ y) e =
    let h = and_parts (equal a b) (same x y) e in λ j. equal_is a b h.0 j ∷ same_is x y h.1 j

or_assoc : (x y z : Bool) → ((x || y) || z) ≡ (x || (y || z))
or_assoc true y z = refl
or_assoc false y z = refl

or_again : (x y : Bool) → ((x || y) || y) ≡ (x || y)
or_again true y = refl
or_again false true = refl
or_again false false = refl

-- marks that a row has are added to it in vain
pub or_row_again : (w : ℕ) (x y : List Bool) → or_row w (or_row w x y) y ≡ or_row w x y
or_row_again w x y =
    tab_ext w (λ i. bit (or_row w x y) i || bit y i) (λ i. bit x i || bit y i)
    (λ i l. ap (λ b. b || bit y i) (bit_tab w (λ j. bit x j || bit y j) i l) ∙ or_again (bit x i) (bit y i))

pub or_row_assoc : (w : ℕ) (x y z : List Bool) → or_row w (or_row w x y) z ≡ or_row w x (or_row w y z)
or_row_assoc w x y z =
    tab_ext w (λ i. bit (or_row w x y) i || bit z i) (λ i. bit x i || bit (or_row w y z) i)
    (λ i l.
    ap (λ b. b || bit z i) (bit_tab w (λ j. bit x j || bit y j) i l)
    ∙ (or_assoc (bit x i) (bit y i) (bit z i) ∙ sym (ap (λ b. bit x i || b) (bit_tab w (λ j. bit y j || bit z j) i l))))
