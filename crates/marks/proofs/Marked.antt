-- The places that are marked on a tape. Assumes nothing.
use Rattle.std.proofs.Common.{◌≡◌, ℕ, zero, suc, ◌+◌, ◌-◌, ◌<◌, ◌≤◌, Bool, true, false, cond, not, ◌&&◌, ◌||◌, eqb, List, [], ◌∷◌, ◌++◌, length, sym, refl, ap, ◌∙◌, ap₂, arith, eq-eqb, ne_eqb}
use native.Mathlib.Decide.{dec_lt}
use Rattle.std.proofs.Math.Bool.{and-true}
use Rattle.block.specs.Rows.{bit}
use Rattle.form.specs.Positions.{place_at}
use Rattle.form.specs.Running.{places_from}
use Rattle.form.proofs.Tapes.{place_agree}
use Rattle.marks.specs.Among.{among}

-- one position that is marked, or not
marked : (t : ℕ → ℕ) (m : ℕ → Bool) (a c : ℕ) → m a ≡ true → places_from t m a (suc c) ≡ place_at t a ∷ places_from t m (suc a) c
marked t m a c e = ap (λ b. cond b (place_at t a ∷ places_from t m (suc a) c) (places_from t m (suc a) c)) e

unmarked : (t : ℕ → ℕ) (m : ℕ → Bool) (a c : ℕ) → m a ≡ false → places_from t m a (suc c) ≡ places_from t m (suc a) c
unmarked t m a c e = ap (λ b. cond b (place_at t a ∷ places_from t m (suc a) c) (places_from t m (suc a) c)) e

-- no position is marked
pub places_quiet : (t : ℕ → ℕ) (m : ℕ → Bool) (a c : ℕ) → ((i : ℕ) → i < c → m (a + i) ≡ false) → places_from t m a c ≡ []
places_quiet t m a zero h = refl
places_quiet t m a (suc c) h =
    let e : a ≡ a + 0 = omega arith in
    unmarked t m a c (ap m e ∙ h 0 (omega arith))
    ∙ places_quiet t m (suc a) c (λ i l. let f : suc a + i ≡ a + suc i = omega arith in ap m f ∙ h (suc i) (omega arith))

-- the first marked position is d on
pub places_next : (t : ℕ → ℕ) (m : ℕ → Bool) (a c d : ℕ) → d < c → m (a + d) ≡ true → ((i : ℕ) → i < d → m (a + i) ≡ false)
    → places_from t m a c ≡ place_at t (a + d) ∷ places_from t m (suc (a + d)) (c - suc d)
places_next t m a zero d l here none = absurd (omega arith)
places_next t m a (suc c) zero l here none =
    let e : a ≡ a + 0 = omega arith in
    let f : c ≡ suc c - 1 = omega arith in
    marked t m a c (ap m e ∙ here) ∙ λ i. place_at t (e i) ∷ places_from t m (suc (e i)) (f i)
places_next t m a (suc c) (suc d) l here none =
    let e : a ≡ a + 0 = omega arith in
    let f : suc a + d ≡ a + suc d = omega arith in
    let g : c - suc d ≡ suc c - suc (suc d) = omega arith in
    unmarked t m a c (ap m e ∙ none 0 (omega arith))
    ∙ places_next t m (suc a) c d (omega arith) (ap m f ∙ here) (λ i k. let q : suc a + i ≡ a + suc i = omega arith in ap m q ∙ none (suc i) (omega arith))
    ∙ λ i. place_at t (f i) ∷ places_from t m (suc (f i)) (g i)

pub places_joined : (t : ℕ → ℕ) (m : ℕ → Bool) (a c d : ℕ) → places_from t m a (c + d) ≡ places_from t m a c ++ places_from t m (a + c) d
places_joined t m a zero d = let e : 0 + d ≡ d = omega arith in let f : a ≡ a + 0 = omega arith in ap₂ (places_from t m) f e
places_joined t m a (suc c) d =
    let e : suc c + d ≡ suc (c + d) = omega arith in
    let f : suc a + c ≡ a + suc c = omega arith in
    let r = places_joined t m (suc a) c d ∙ ap (λ q. places_from t m (suc a) c ++ places_from t m q d) f in
    ap (places_from t m a) e ∙ ap (λ l. cond (m a) (place_at t a ∷ l) l) r ∙ sym (spread (m a))
  where
    spread : (b : Bool) → (cond b (place_at t a ∷ places_from t m (suc a) c) (places_from t m (suc a) c) ++ places_from t m (a + suc c) d)
        ≡ cond b (place_at t a ∷ (places_from t m (suc a) c ++ places_from t m (a + suc c) d)) (places_from t m (suc a) c ++ places_from t m (a + suc c) d)
    spread true = refl
    spread false = refl

-- no more places than positions
pub places_few : (t : ℕ → ℕ) (m : ℕ → Bool) (a c : ℕ) → length (places_from t m a c) ≤ c
places_few t m a zero = omega arith
places_few t m a (suc c) = go (m a) (places_few t m (suc a) c)
  where
    go : (b : Bool) → length (places_from t m (suc a) c) ≤ c → length (cond b (place_at t a ∷ places_from t m (suc a) c) (places_from t m (suc a) c)) ≤ suc c
    go true h = omega arith
    go false h = omega arith

-- the places depend only on the bytes up to the last and on the marks between
pub places_agree : (t u : ℕ → ℕ) (m n : ℕ → Bool) (a c : ℕ) → ((i : ℕ) → i < a + c → t i ≡ u i) → ((q : ℕ) → a ≤ q → q < a + c → m q ≡ n q)
    → places_from t m a c ≡ places_from u n a c
places_agree t u m n a zero same marks = refl
places_agree t u m n a (suc c) same marks =
    let p = place_agree t u a (λ i l. same i (omega arith)) a (omega arith) in
    let b = marks a (omega arith) (omega arith) in
    let r = places_agree t u m n (suc a) c (λ i l. same i (omega arith)) (λ q h l. marks q (omega arith) (omega arith)) in
    λ i. cond (b i) (p i ∷ r i) (r i)

-- ---- the places of a block's ones, the first of which stands at b

pub places_none : (t : ℕ → ℕ) (row : List Bool) (b w : ℕ) → ((i : ℕ) → i < w → bit row i ≡ false) → places_from t (λ q. bit row (q - b)) b w ≡ []
places_none t row b w h = places_quiet t (λ q. bit row (q - b)) b w (λ i l. let e : b + i - b ≡ i = omega arith in ap (bit row) e ∙ h i l)

-- the first one, and the rest without it
pub places_first : (t : ℕ → ℕ) (row rest : List Bool) (b w p : ℕ) → p < w → bit row p ≡ true → ((i : ℕ) → i < p → bit row i ≡ false)
    → ((i : ℕ) → i < w → bit rest i ≡ (bit row i && not (eqb i p)))
    → places_from t (λ q. bit row (q - b)) b w ≡ place_at t (b + p) ∷ places_from t (λ q. bit rest (q - b)) b w
places_first t row rest b w p l here none gone =
    places_next t (λ q. bit row (q - b)) b w p l (ap (bit row) (back p) ∙ here) (λ i h. ap (bit row) (back i) ∙ none i h)
    ∙ ap (λ es. place_at t (b + p) ∷ es) (sym tail)
  where
    back : (i : ℕ) → b + i - b ≡ i
    back i = omega arith

    quiet : (i : ℕ) → i < suc p → bit rest i ≡ false
    quiet i h =
        gone i (omega arith)
        ∙ elim (dec_lt i p) [
          | yes k ↦ ap (λ x. x && not (eqb i p)) (none i k)
          | no k ↦ let e : i ≡ p = omega arith in ap₂ (λ x y. x && not y) (ap (bit row) e ∙ here) (eq-eqb i p e)
        ]

    later : (q : ℕ) → b + suc p ≤ q → q < b + suc p + (w - suc p) → bit rest (q - b) ≡ bit row (q - b)
    later q h k = gone (q - b) (omega arith) ∙ ap (λ x. bit row (q - b) && not x) (ne_eqb (q - b) p (λ e. omega arith)) ∙ and-true (bit row (q - b))

    tail : places_from t (λ q. bit rest (q - b)) b w ≡ places_from t (λ q. bit row (q - b)) (suc (b + p)) (w - suc p)
    tail =
        let e : w ≡ suc p + (w - suc p) = omega arith in
        let f : b + suc p ≡ suc (b + p) = omega arith in
        ap (places_from t (λ q. bit rest (q - b)) b) e ∙ places_joined t (λ q. bit rest (q - b)) b (suc p) (w - suc p)
        ∙ ap (λ es. es ++ places_from t (λ q. bit rest (q - b)) (b + suc p) (w - suc p)) (places_none t rest b (suc p) quiet)
        ∙ places_agree t t (λ q. bit rest (q - b)) (λ q. bit row (q - b)) (b + suc p) (w - suc p) (λ i h. refl) later
        ∙ ap (λ a. places_from t (λ q. bit row (q - b)) a (w - suc p)) f

-- ---- which positions are among the places

-- none that stands before the first
pub places_before : (t : ℕ → ℕ) (m : ℕ → Bool) (a c q : ℕ) → q < a → among (places_from t m a c) q ≡ false
places_before t m a zero q h = refl
places_before t m a (suc c) q h = go (m a) (places_before t m (suc a) c q (omega arith))
  where
    go : (b : Bool) → among (places_from t m (suc a) c) q ≡ false → among (cond b (place_at t a ∷ places_from t m (suc a) c) (places_from t m (suc a) c)) q ≡ false
    go true e = ap₂ ◌||◌ (ne_eqb a q (λ f. omega arith)) e
    go false e = e

-- and of those between just the marked ones
pub places_among : (t : ℕ → ℕ) (m : ℕ → Bool) (a c q : ℕ) → a ≤ q → q < a + c → among (places_from t m a c) q ≡ m q
places_among t m a zero q h l = absurd (omega arith)
places_among t m a (suc c) q h l =
    elim (dec_lt a q) [
      | yes k ↦ after (m a) k (places_among t m (suc a) c q (omega arith) (omega arith))
      | no k ↦ let e : a ≡ q = omega arith in here (m a) refl e (places_before t m (suc a) c q (omega arith))
    ]
  where
    after : (b : Bool) → a < q → among (places_from t m (suc a) c) q ≡ m q → among (cond b (place_at t a ∷ places_from t m (suc a) c) (places_from t m (suc a) c)) q ≡ m q
    after true k e = ap (λ x. x || among (places_from t m (suc a) c) q) (ne_eqb a q (λ f. omega arith)) ∙ e
    after false k e = e

    here : (b : Bool) → m a ≡ b → a ≡ q → among (places_from t m (suc a) c) q ≡ false
        → among (cond b (place_at t a ∷ places_from t m (suc a) c) (places_from t m (suc a) c)) q ≡ m q
    here true s e n = ap (λ x. x || among (places_from t m (suc a) c) q) (eq-eqb a q e) ∙ sym s ∙ ap m e
    here false s e n = n ∙ sym s ∙ ap m e
