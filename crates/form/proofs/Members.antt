-- What a list has. Assumes nothing.
use Rattle.std.proofs.Common.{ℕ, zero, suc, ◌≤◌, Bool, true, false, T, ◌⊎◌, List, [], ◌∷◌, ◌++◌, refl, subst, inl, inr, arith}
use native.Mathlib.Decide.{dec_lt}
use Rattle.form.specs.Lines.{Has}

pub has_left : {A : Type 0} (x : A) (ys zs : List A) → Has x ys → Has x (ys ++ zs)
has_left x [] zs h = absurd h
has_left x (y ∷ ys) zs (inl e) = inl e
has_left x (y ∷ ys) zs (inr h) = inr (has_left x ys zs h)

pub has_right : {A : Type 0} (x : A) (ys zs : List A) → Has x zs → Has x (ys ++ zs)
has_right x [] zs h = h
has_right x (y ∷ ys) zs h = inr (has_right x ys zs h)

pub has_cases : {A : Type 0} (x : A) (ys zs : List A) → Has x (ys ++ zs) → Has x ys ⊎ Has x zs
has_cases x [] zs h = inr h
has_cases x (y ∷ ys) zs (inl e) = inl (inl e)
has_cases x (y ∷ ys) zs (inr h) = elim (has_cases x ys zs h) [ inl a ↦ inl (inr a) | inr b ↦ inr b ]

-- what f gives of each element, one after the other
abbrev pub each : {A B : Type 0} → (A → List B) → List A → List B
each f [] = []
each f (x ∷ xs) = f x ++ each f xs

pub each_from : {A B : Type 0} (f : A → List B) (y : B) (xs : List A) → Has y (each f xs) → (x : A) × Has x xs × Has y (f x)
each_from f y [] h = absurd h
each_from f y (x ∷ xs) h =
    elim (has_cases y (f x) (each f xs) h) [
      | inl a ↦ (x, inl refl, a)
      | inr b ↦ let r = each_from f y xs b in (r.0, inr r.1, r.2)
    ]

pub each_to : {A B : Type 0} (f : A → List B) (y : B) (x : A) (xs : List A) → Has x xs → Has y (f x) → Has y (each f xs)
each_to f y x [] h g = absurd h
each_to f y x (z ∷ xs) (inl e) g = has_left y (f z) (each f xs) (subst (λ a. Has y (f a)) e g)
each_to f y x (z ∷ xs) (inr h) g = has_right y (f z) (each f xs) (each_to f y x xs h g)

-- the list where the test passes, none where it fails
abbrev pub keep : {A : Type 0} → Bool → List A → List A
keep true xs = xs
keep false xs = []

pub keep_from : {A : Type 0} (y : A) (b : Bool) (xs : List A) → Has y (keep b xs) → T b × Has y xs
keep_from y true xs h = (tt, h)
keep_from y false xs h = absurd h

pub keep_to : {A : Type 0} (y : A) (b : Bool) (xs : List A) → T b → Has y xs → Has y (keep b xs)
keep_to y true xs t h = h
keep_to y false xs t h = absurd t

-- the numbers from n down to 0
abbrev pub down_from : ℕ → List ℕ
down_from zero = 0 ∷ []
down_from (suc n) = suc n ∷ down_from n

pub down_to : (n k : ℕ) → k ≤ n → Has k (down_from n)
down_to zero k l = inl (omega arith)
down_to (suc n) k l = elim (dec_lt k (suc n)) [ yes h ↦ inr (down_to n k (omega arith)) | no h ↦ inl (omega arith) ]

pub down_from_lem : (n k : ℕ) → Has k (down_from n) → k ≤ n
down_from_lem zero k (inl e) = omega arith
down_from_lem zero k (inr h) = absurd h
down_from_lem (suc n) k (inl e) = omega arith
down_from_lem (suc n) k (inr h) = omega (arith, down_from_lem n k h)
