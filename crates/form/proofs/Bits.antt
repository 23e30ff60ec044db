-- Tests joined, and taken apart. Assumes nothing.
use Rattle.std.proofs.Common.{◌≡◌, ℕ, Bool, true, false, cond, not, ◌&&◌, ◌||◌, T, eqb, ◌⊎◌, refl, subst, inl, inr}
use lib.Dec.{eqb_refl}

pub and_i : (x y : Bool) → T x → T y → T (x && y)
and_i true y p q = q
and_i false y p q = p

pub and_l : (x y : Bool) → T (x && y) → T x
and_l true y p = tt
and_l false y p = p

pub and_r : (x y : Bool) → T (x && y) → T y
and_r true y p = p
and_r false y p = absurd p

pub eqb_to : (m n : ℕ) → m ≡ n → T (eqb m n)
eqb_to m n e = subst (λ x. T (eqb m x)) e (eqb_refl m)

pub or_cases : (x y : Bool) → T (x || y) → T x ⊎ T y
or_cases true y p = inl tt
or_cases false y p = inr p

pub or_l : (x y : Bool) → T x → T (x || y)
or_l true y p = tt
or_l false y p = absurd p

pub or_r : (x y : Bool) → T y → T (x || y)
or_r true y p = tt
or_r false y p = p

pub cond_true : {A : Type 0} (b : Bool) (x y : A) → T b → cond b x y ≡ x
cond_true true x y h = refl
cond_true false x y h = absurd h

pub cond_false : {A : Type 0} (b : Bool) (x y : A) → T (not b) → cond b x y ≡ y
cond_false true x y h = absurd h
cond_false false x y h = refl
