-- Lists of places that rise: they are known by what they have. Assumes nothing.
use Rattle.std.proofs.Common.{◌≡◌, ℕ, ◌<◌, ◌≤◌, ◌⊎◌, List, [], ◌∷◌, ◌++◌, sym, refl, ap, ◌∙◌, subst, inl, inr, arith}
use native.Mathlib.Decide.{dec_lt}
use Rattle.form.specs.Lines.{Place, Has, Rising}
use Rattle.form.proofs.Members.{has_cases}

abbrev Within : List Place → List Place → Type 0
Within es fs = (x : Place) → Has x es → Has x fs

-- the first of each is in the other, and so they are the same
first : (e f : Place) (es fs : List Place) → Rising (e ∷ es) → Rising (f ∷ fs) → Has e (f ∷ fs) → Has f (e ∷ es) → e ≡ f
first e f es fs r q (inl g) h = g
first e f es fs r q (inr g) (inl h) = sym h
first e f es fs r q (inr g) (inr h) =
    let a : f.position < e.position = q.0 e g in
    let b : e.position < f.position = r.0 f h in
    absurd (omega arith)

rest : (e f : Place) (es fs : List Place) → Rising (e ∷ es) → e ≡ f → Within (e ∷ es) (f ∷ fs) → Within es fs
rest e f es fs r g w x h = go (w x (inr h))
  where
    go : Has x (f ∷ fs) → Has x fs
    go (inl k) =
        let a : e.position < x.position = r.0 x h in
        let b : x.position ≡ e.position = ap (λ (y : Place). y.position) (k ∙ sym g) in
        absurd (omega arith)
    go (inr k) = k

pub rising_unique : (es fs : List Place) → Rising es → Rising fs → Within es fs → Within fs es → es ≡ fs
rising_unique [] [] r q v w = refl
rising_unique [] (f ∷ fs) r q v w = absurd (w f (inl refl))
rising_unique (e ∷ es) [] r q v w = absurd (v e (inl refl))
rising_unique (e ∷ es) (f ∷ fs) r q v w =
    let g : e ≡ f = first e f es fs r q (v e (inl refl)) (w f (inl refl)) in
    let t : es ≡ fs = rising_unique es fs r.1 q.1 (rest e f es fs r g v) (rest f e fs es q (sym g) w) in
    λ i. g i ∷ t i

pub rising_append : (es fs : List Place) → Rising es → Rising fs
    → ((x y : Place) → Has x es → Has y fs → x.position < y.position) → Rising (es ++ fs)
rising_append [] fs r q h = q
rising_append (e ∷ es) fs r q h = (
  λ x m. after x (has_cases x es fs m),
  rising_append es fs r.1 q (λ x y a b. h x y (inr a) b),
)
  where
    after : (x : Place) → Has x es ⊎ Has x fs → e.position < x.position
    after x (inl a) = r.0 x a
    after x (inr b) = h e x (inl refl) b

pub rising_left : (es fs : List Place) → Rising (es ++ fs) → Rising es
rising_left [] fs r = tt
rising_left (e ∷ es) fs r = (λ x m. r.0 x (left x es m), rising_left es fs r.1)
  where
    left : (x : Place) (ys : List Place) → Has x ys → Has x (ys ++ fs)
    left x [] m = absurd m
    left x (y ∷ ys) (inl k) = inl k
    left x (y ∷ ys) (inr k) = inr (left x ys k)

-- A rising list falls apart at a position: those before it come first.
pub record Cut (n : ℕ) (es : List Place) : Type 0 where
  pub early : List Place
  pub late : List Place
  pub parts : es ≡ early ++ late
  pub below : (e : Place) → Has e early → e.position < n
  pub above : (e : Place) → Has e late → n ≤ e.position

pub cut : (n : ℕ) (es : List Place) → Rising es → Cut n es
cut n [] r = record { early = []; late = []; parts = refl; below = λ e h. absurd h; above = λ e h. absurd h }
cut n (e ∷ es) r = at (cut n es r.1) (dec_lt e.position n)
  where
    at : Cut n es → Dec (e.position < n) → Cut n (e ∷ es)
    at c (yes l) =
        record {
          early = e ∷ c.early;
          late = c.late;
          parts = ap (λ (x : List Place). e ∷ x) c.parts;
          below = λ x h. front x h;
          above = c.above;
        }
      where
        front : (x : Place) → Has x (e ∷ c.early) → x.position < n
        front x (inl k) = subst (λ (y : Place). y.position < n) (sym k) l
        front x (inr k) = c.below x k
    at c (no l) =
        record {
          early = [];
          late = e ∷ es;
          parts = refl;
          below = λ x h. absurd h;
          above = λ x h. back x h;
        }
      where
        back : (x : Place) → Has x (e ∷ es) → n ≤ x.position
        back x (inl k) = omega (arith, ap (λ (y : Place). y.position) k)
        back x (inr k) = omega (arith, r.0 x k)
