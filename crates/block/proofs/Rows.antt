-- Rows by their bits. Assumes nothing.
use Rattle.std.proofs.Common.{◌≡◌, ℕ, zero, suc, ◌+◌, ◌-◌, ◌*◌, ◌^◌, ◌<◌, ◌≤◌, Bool, true, false, T, List, [], ◌∷◌, ◌++◌, length, sym, refl, ap, ◌∙◌, subst, ap₂, mul_assoc, add-mul, pow-suc, arith, pow-add}
use native.Mathlib.Decide.{dec_lt}
use Rattle.block.specs.Rows.{bit, tab, worth, value}
use Rattle.block.specs.Calls.{enters}

pub wrong : {X : Type 0} → false ≡ true → X
wrong e = absurd (subst T (sym e) tt)

pub bit_tab : (w : ℕ) (f : ℕ → Bool) (i : ℕ) → i < w → bit (tab w f) i ≡ f i
unfolding tab bit
bit_tab zero f i h = absurd (omega arith)
bit_tab (suc w) f zero h = refl
bit_tab (suc w) f (suc i) h = bit_tab w (λ j. f (suc j)) i (omega arith)

-- a row that is known by a function, at a place
pub bit_at : (w : ℕ) (row : List Bool) (f : ℕ → Bool) → row ≡ tab w f → (i : ℕ) → i < w → bit row i ≡ f i
bit_at w row f e i h = ap (λ r. bit r i) e ∙ bit_tab w f i h

pub bit_past : (row : List Bool) (i : ℕ) → length row ≤ i → bit row i ≡ false
unfolding bit
bit_past [] i h = refl
bit_past (b ∷ row) zero h = absurd (omega arith)
bit_past (b ∷ row) (suc i) h = bit_past row i (omega arith)

pub length-tab : (w : ℕ) (f : ℕ → Bool) → length (tab w f) ≡ w
unfolding tab
length-tab zero f = refl
length-tab (suc w) f = ap suc (length-tab w (λ i. f (suc i)))

pub tab_ext : (w : ℕ) (f g : ℕ → Bool) → ((i : ℕ) → i < w → f i ≡ g i) → tab w f ≡ tab w g
unfolding tab
tab_ext zero f g h = refl
tab_ext (suc w) f g h = λ j. h 0 (omega arith) j ∷ tab_ext w (λ i. f (suc i)) (λ i. g (suc i)) (λ i l. h (suc i) (omega arith)) j

-- a row is known by its bits
pub tab_is : (row : List Bool) (w : ℕ) (f : ℕ → Bool) → length row ≡ w → ((i : ℕ) → i < w → bit row i ≡ f i) → row ≡ tab w f
unfolding tab bit
tab_is row w f long h = subst (λ n. row ≡ tab n f) long (go row f (λ i l. h i (omega arith)))
  where
    go : (row : List Bool) (f : ℕ → Bool) → ((i : ℕ) → i < length row → bit row i ≡ f i) → row ≡ tab (length row) f
    go [] f h = refl
    go (b ∷ row) f h = λ j. h 0 (omega arith) j ∷ go row (λ i. f (suc i)) (λ i l. h (suc i) (omega arith)) j

-- ---- one place on

pub enters_ext : (enter : Bool) (f g : ℕ → Bool) (i : ℕ) → ((j : ℕ) → j < i → f j ≡ g j) → enters enter f i ≡ enters enter g i
enters_ext enter f g zero h = refl
enters_ext enter f g (suc i) h = h i (omega arith)

-- what falls out is what would stand behind the last place
pub enters_last : (enter : Bool) (f : ℕ → Bool) (w : ℕ) → 0 < w → enters enter f w ≡ f (w - 1)
enters_last enter f zero h = absurd (omega arith)
enters_last enter f (suc w) h = ap f (omega arith)

-- ---- rows behind one another

pub length_joined : (a b : List Bool) → length (a ++ b) ≡ length a + length b
length_joined [] b = omega arith
length_joined (x ∷ a) b = omega (arith, length_joined a b)

pub bit_early : (a b : List Bool) (i : ℕ) → i < length a → bit (a ++ b) i ≡ bit a i
unfolding bit
bit_early [] b i h = absurd (omega arith)
bit_early (x ∷ a) b zero h = refl
bit_early (x ∷ a) b (suc i) h = bit_early a b i (omega arith)

pub bit_late : (a b : List Bool) (i : ℕ) → bit (a ++ b) (length a + i) ≡ bit b i
unfolding bit
bit_late [] b i = ap (bit b) (omega arith)
bit_late (x ∷ a) b i = let e : suc (length a) + i ≡ suc (length a + i) = omega arith in ap (bit (x ∷ (a ++ b))) e ∙ bit_late a b i

-- ---- rows as numbers

pub value_ext : (w : ℕ) (f g : ℕ → Bool) → ((i : ℕ) → i < w → f i ≡ g i) → value w f ≡ value w g
unfolding value
value_ext zero f g h = refl
value_ext (suc w) f g h = ap₂ (λ x y. x + worth y * 2 ^ w) (value_ext w f g (λ i l. h i (omega arith))) (h w (omega arith))

pub value_lt : (w : ℕ) (f : ℕ → Bool) → value w f < 2 ^ w
unfolding value
value_lt zero f = omega arith
value_lt (suc w) f = go (f w) (value_lt w f)
  where
    go : (b : Bool) → value w f < 2 ^ w → value w f + worth b * 2 ^ w < 2 ^ suc w
    go true h = let twice : 2 ^ suc w ≡ 2 ^ w * 2 = pow-suc 2 w in omega arith
    go false h = let twice : 2 ^ suc w ≡ 2 ^ w * 2 = pow-suc 2 w in omega arith

-- a digit above a number that is below its worth
pub digits : (P a b : ℕ) (p q : Bool) → a < P → b < P → a + worth p * P ≡ b + worth q * P → (a ≡ b) × (p ≡ q)
digits P a b true true h l e = (omega arith, refl)
digits P a b true false h l e = absurd (omega arith)
digits P a b false true h l e = absurd (omega arith)
digits P a b false false h l e = (omega arith, refl)

-- one number, one row
pub value_bits : (w : ℕ) (f g : ℕ → Bool) → value w f ≡ value w g → (i : ℕ) → i < w → f i ≡ g i
unfolding value
value_bits zero f g e i h = absurd (omega arith)
value_bits (suc w) f g e i h =
    let d = digits (2 ^ w) (value w f) (value w g) (f w) (g w) (value_lt w f) (value_lt w g) e in
    elim (dec_lt i w) [
      | yes l ↦ value_bits w f g d.0 i l
      | no l ↦ let same : w ≡ i = omega arith in subst (λ j. f j ≡ g j) same d.1
    ]

-- two rows behind one another, as numbers
pub value_joined : (v w : ℕ) (f : ℕ → Bool) → value (v + w) f ≡ value v f + value w (λ i. f (v + i)) * 2 ^ v
unfolding value
value_joined v zero f = let e : v + 0 ≡ v = omega arith in ap (λ n. value n f) e ∙ omega arith
value_joined v (suc w) f =
    let e : v + suc w ≡ suc (v + w) = omega arith in
    let p : 2 ^ (v + w) ≡ 2 ^ w * 2 ^ v = ap (λ n. 2 ^ n) (omega arith) ∙ pow-add 2 w v in
    let d : worth (f (v + w)) * 2 ^ (v + w) ≡ worth (f (v + w)) * 2 ^ w * 2 ^ v = ap (λ n. worth (f (v + w)) * n) p ∙ sym (mul_assoc (worth (f (v + w))) (2 ^ w) (2 ^ v)) in
    let s = add-mul (value w (λ i. f (v + i))) (worth (f (v + w)) * 2 ^ w) (2 ^ v) in
    ap (λ n. value n f) e ∙ omega (arith, value_joined v w f)
