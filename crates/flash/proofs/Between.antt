-- The ends between positions. Assumes nothing.
use Rattle.std.proofs.Common.{◌≡◌, ℕ, zero, suc, ◌+◌, ◌<◌, Bool, true, false, cond, List, [], ◌∷◌, ◌++◌, sym, refl, ap, ◌∙◌, ap₂, arith}
use Rattle.flash.specs.Flashes.{complete, end_at, between}

pub between_joined : (b : List ℕ) (p m n : ℕ) → between b p (m + n) ≡ between b p m ++ between b (p + m) n
unfolding between
between_joined b p zero n = let e : 0 + n ≡ n = omega arith in let f : p ≡ p + 0 = omega arith in ap₂ (between b) f e
between_joined b p (suc m) n =
    let e : suc m + n ≡ suc (m + n) = omega arith in
    let f : suc p + m ≡ p + suc m = omega arith in
    let r = between_joined b (suc p) m n ∙ ap (λ q. between b (suc p) m ++ between b q n) f in
    ap (between b p) e ∙ ap (λ l. cond (complete b p) (end_at b p ∷ l) l) r ∙ sym (spread (complete b p))
  where
    spread : (t : Bool) → (cond t (end_at b p ∷ between b (suc p) m) (between b (suc p) m) ++ between b (p + suc m) n)
        ≡ cond t (end_at b p ∷ (between b (suc p) m ++ between b (p + suc m) n)) (between b (suc p) m ++ between b (p + suc m) n)
    spread true = refl
    spread false = refl

pub between_none : (b : List ℕ) (p n : ℕ) → ((i : ℕ) → i < n → complete b (p + i) ≡ false) → between b p n ≡ []
unfolding between
between_none b p zero h = refl
between_none b p (suc n) h =
    let f : p + 0 ≡ p = omega arith in
    ap (λ t. cond t (end_at b p ∷ between b (suc p) n) (between b (suc p) n)) (ap (complete b) (sym f) ∙ h 0 (omega arith))
    ∙ between_none b (suc p) n (λ i l. let e : suc p + i ≡ p + suc i = omega arith in ap (complete b) e ∙ h (suc i) (omega arith))

pub between_one : (b : List ℕ) (p : ℕ) → complete b p ≡ true → between b p 1 ≡ end_at b p ∷ []
unfolding between
between_one b p e = ap (λ t. cond t (end_at b p ∷ []) []) e
