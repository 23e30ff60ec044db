-- The rows that the calls owe, from the bits of the changes. Assumes nothing.
use Rattle.std.proofs.Common.{◌≡◌, ℕ, zero, suc, ◌+◌, ◌*◌, ◌<◌, ◌≤◌, Bool, Some, None, Option, sym, ◌∙◌, inl, inr, arith}
use native.Mathlib.Decide.{dec_lt}
use Rattle.block.specs.Rows.{bit, tab, bit_of}
use Rattle.block.specs.Calls.{differ, enters, Add, Served, Put, Read, Least}
use Rattle.block.specs.Sums.{over}
use Rattle.block.proofs.Rows.{bit_tab, bit_past, tab_ext, length-tab}
use Rattle.block.proofs.Sums.{over_ext, sums_agree_lem}
use Rattle.runlist.specs.Changes.{Agree}
use Rattle.runlist.specs.Merged.{merged}

module _ (op : Bool → Bool → Bool → Bool) (w : ℕ) (f g : ℕ → Bool) (enter : Bool) where
  left : (j : ℕ) → j < w → f j ≡ bit (tab w f) j
  left j l = sym (bit_tab w f j l)

  right : (j : ℕ) → j < w → g j ≡ bit (tab w g) j
  right j l = sym (bit_tab w g j l)

  carry_row : (i : ℕ) → i ≤ w → over f g enter i ≡ over (bit (tab w f)) (bit (tab w g)) enter i
  carry_row i h = over_ext f g (bit (tab w f)) (bit (tab w g)) enter i (λ j u. left j (omega arith)) (λ j u. right j (omega arith))

  pub row_merged : (s : ℕ → Bool) → Agree w s (merged op f g enter) → tab w s ≡ tab w (merged op (bit (tab w f)) (bit (tab w g)) enter)
  row_merged s e = tab_ext w s _ (λ i l. e i l ∙ (λ z. op (left i l z) (right i l z) (carry_row i (omega arith) z)))

-- what a sum makes of two bits and the carry
abbrev pub total : Bool → Bool → Bool → Bool
total x y k = differ (differ x y) k

pub row_sum : (w : ℕ) (f g : ℕ → Bool) (enter : Bool) (s : ℕ → Bool) (fallen : Bool) → Agree w s (merged total f g enter)
    → fallen ≡ over f g enter w → Add w (tab w f) (tab w g) enter (tab w s) fallen
row_sum w f g enter s fallen e o =
    (sums_agree_lem w (tab w f) (tab w g) enter (tab w s) fallen (length-tab w s)).1 (row_merged total w f g enter s e, o ∙ carry_row total w f g enter w (omega arith))

-- one place on
pub row_moved : (w : ℕ) (f s : ℕ → Bool) (enter : Bool) → s 0 ≡ enter → ((j : ℕ) → suc j < w → s (suc j) ≡ f j)
    → tab w s ≡ tab w (enters enter (bit (tab w f)))
row_moved w f s enter first rest = tab_ext w s _ go
  where
    go : (i : ℕ) → i < w → s i ≡ enters enter (bit (tab w f)) i
    go zero l = first
    go (suc i) l = rest i l ∙ sym (bit_tab w f i (omega arith))

-- a byte at a group
pub row_put : (w k byte : ℕ) (f s : ℕ → Bool) → Served w k → ((j : ℕ) → j < 8 → s (8 * k + j) ≡ bit_of byte j)
    → ((i : ℕ) → i < 8 * k → s i ≡ f i) → ((i : ℕ) → 8 * k + 8 ≤ i → i < w → s i ≡ f i) → Put w (tab w f) k byte (tab w s)
row_put w k byte f s served here before behind =
    record {
      inside = λ _ j h. bit_tab w s (8 * k + j) (omega arith) ∙ here j h;
      outside =
          λ _ i h.
          elim (dec_lt i w) [
            | yes l ↦ bit_tab w s i l ∙ elim h [ inl u ↦ before i u | inr u ↦ behind i u l ] ∙ sym (bit_tab w f i l)
            | no l ↦ bit_past (tab w s) i (omega (arith, length-tab w s)) ∙ sym (bit_past (tab w f) i (omega (arith, length-tab w f)))
          ];
      past = λ h. absurd (omega arith);
    }

-- a group as a byte
pub row_read : (w k byte : ℕ) (f : ℕ → Bool) → Served w k → ((j : ℕ) → j < 8 → bit_of byte j ≡ f (8 * k + j)) → Read w (tab w f) k byte
row_read w k byte f served e =
    record { inside = λ _ j h. e j h ∙ sym (bit_tab w f (8 * k + j) (omega arith)); past = λ h. absurd (omega arith) }

-- the first one from i on
pub first_row : (w : ℕ) (f : ℕ → Bool) (i : ℕ) (r : Option ℕ) → Least f i w r → Least (bit (tab w f)) i w r
first_row w f i None h = λ q x y. bit_tab w f q y ∙ h q x y
first_row w f i (Some t) (a, b, e, h) = (a, b, bit_tab w f t b ∙ e, λ q x y. bit_tab w f q (omega arith) ∙ h q x y)
