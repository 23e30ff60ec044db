-- The ends of a recording that still runs. Assumes nothing.
use Rattle.std.proofs.Common.{◌≡◌, ℕ, zero, suc, ◌+◌, ◌<◌, ◌≤◌, Bool, true, false, cond, T, ◌⊎◌, ◌↔◌, List, [], ◌∷◌, ◌++◌, length, get_or, sym, refl, ap, ◌∙◌, subst, inl, inr, append_assoc, arith, length-append}
use native.Mathlib.Decide.{dec_lt}
use lib.ListN.{get_or-append, get_or-eq_default}
use lib.Seq.{get_or-append_seam}
use Rattle.form.specs.Form.{Form}
use Rattle.form.specs.Meaning.{feed}
use Rattle.form.specs.Lines.{Place, IsEnd, Has, Rising}
use Rattle.form.specs.Positions.{opens, Ending, tape, closed, Holds, place_at}
use Rattle.form.specs.Running.{EndsBelow, EarlyEnds, Begins, EarlyExist, EarlyUnique, EarlyFirst, EarlyGrow, ClosedEnds, EarlyPositions, places_from, EarlyNone, EarlyNext}
use Rattle.form.proofs.Members.{has_left, has_right, has_cases}
use Rattle.form.proofs.Ordered.{rising_unique, rising_left, rising_append, Cut, cut}
use Rattle.form.proofs.Existing.{ends, are_ends}
use Rattle.form.proofs.Tapes.{ending_agree, place_agree}
use Rattle.form.proofs.Positions.{positions_agree_lem}

-- one more at most stands behind a recording that is closed
closed_long : (r : List ℕ) → length r ≤ length (closed r)
closed_long r = omega (arith, length-append r (cond (opens (tape r) (length r)) [] (feed ∷ [])))

-- an end of r is one of any recording whose tape agrees up to its position, and which reaches so far
moved : (r q : List ℕ) (F : Form) (e : Place) → ((i : ℕ) → i ≤ e.position → tape r i ≡ tape q i)
    → e.position < length (closed q) → IsEnd r F e → IsEnd q F e
moved r q F e agree l h =
    let y = (positions_agree_lem r F e).0 h in
    let p : ℕ = e.position in
    (positions_agree_lem q F e).1 (
      l,
      ending_agree (tape r) (tape q) p agree F p (omega arith) y.1,
      y.2 ∙ place_agree (tape r) (tape q) p agree p (omega arith),
    )

joined_tape : (bytes rest : List ℕ) (i : ℕ) → i < length bytes → tape (bytes ++ rest) i ≡ tape bytes i
joined_tape bytes rest i l = get_or-append bytes rest feed i l

pub early_positions : EarlyPositions
early_positions bytes rest F t agree e l =
    let p : ℕ = e.position in
    let r : List ℕ = bytes ++ rest in
    let there : (i : ℕ) → i ≤ p → tape r i ≡ t i = λ i m. joined_tape bytes rest i (omega arith) ∙ sym (agree i (omega arith)) in
    let back : (i : ℕ) → i ≤ p → t i ≡ tape r i = λ i m. sym (there i m) in (
      λ h.
          let y = (positions_agree_lem r F e).0 h in
          (ending_agree (tape r) t p there F p (omega arith) y.1, y.2 ∙ place_agree (tape r) t p there p (omega arith)),
      λ y.
          (positions_agree_lem r F e).1 (
            omega (arith, closed_long r, length-append bytes rest),
            ending_agree t (tape r) p back F p (omega arith) y.0,
            y.1 ∙ place_agree t (tape r) p back p (omega arith),
          ),
    )

-- a position of the bytes is an end whatever follows them
other : (bytes rest more : List ℕ) (F : Form) (e : Place) → e.position < length bytes → IsEnd (bytes ++ rest) F e → IsEnd (bytes ++ more) F e
other bytes rest more F e l h =
    moved (bytes ++ rest) (bytes ++ more) F e
    (λ i m. joined_tape bytes rest i (omega arith) ∙ sym (joined_tape bytes more i (omega arith)))
    (omega (arith, closed_long (bytes ++ more), length-append bytes more)) h

-- of a rising list of ends of r, that has all those below n, the front below n is their list
fronts : (r : List ℕ) (F : Form) (n : ℕ) (all : List Place) → Rising all → ((e : Place) → Has e all → IsEnd r F e)
    → ((e : Place) → IsEnd r F e → e.position < n → Has e all) → (c : Cut n all) → EndsBelow r F n c.early
fronts r F n all rising sound full c =
    record {
      rising = rising_left c.early c.late (subst Rising c.parts rising);
      sound = λ e h. (sound e (subst (Has e) (sym c.parts) (has_left e c.early c.late h)), c.below e h);
      full = λ e h l. pick e l (has_cases e c.early c.late (subst (Has e) c.parts (full e h l)));
    }
  where
    pick : (e : Place) → e.position < n → Has e c.early ⊎ Has e c.late → Has e c.early
    pick e l (inl h) = h
    pick e l (inr h) = absurd (omega (arith, c.above e h))

below : (r : List ℕ) (F : Form) (n : ℕ) → (es : List Place) × EndsBelow r F n es
below r F n =
    let all = are_ends r F in
    let c : Cut n (ends F r) = cut n (ends F r) all.rising in
    (c.early, fronts r F n (ends F r) all.rising all.sound (λ e h l. all.full e h) c)

pub below_unique : (r : List ℕ) (F : Form) (n : ℕ) (es fs : List Place) → EndsBelow r F n es → EndsBelow r F n fs → es ≡ fs
below_unique r F n es fs a b =
    rising_unique es fs a.rising b.rising (λ x h. let y = a.sound x h in b.full x y.0 y.1)
    (λ x h. let y = b.sound x h in a.full x y.0 y.1)

-- what holds of one recording that begins with the bytes holds of all
pub early : (bytes rest : List ℕ) (F : Form) (es : List Place) → EndsBelow (bytes ++ rest) F (length bytes) es → EarlyEnds bytes F es
early bytes rest F es h more =
    record {
      rising = h.rising;
      sound = λ e x. let y = h.sound e x in (other bytes rest more F e y.1 y.0, y.1);
      full = λ e x l. h.full e (other bytes more rest F e l x) l;
    }

pub early_exist : EarlyExist
early_exist bytes F = let y = below (bytes ++ []) F (length bytes) in (y.0, early bytes [] F y.0 y.1)

pub early_unique : EarlyUnique
early_unique bytes F es fs a b = below_unique (bytes ++ []) F (length bytes) es fs (a []) (b [])

-- a rising list of ends of r, that has all those below n, begins with them
begins : (r : List ℕ) (F : Form) (n : ℕ) (es all : List Place) → EndsBelow r F n es → Rising all
    → ((e : Place) → Has e all → IsEnd r F e) → ((e : Place) → IsEnd r F e → e.position < n → Has e all) → Begins es n all
begins r F n es all a rising sound full =
    let c : Cut n all = cut n all rising in
    let e = below_unique r F n c.early es (fronts r F n all rising sound full c) a in
    (c.late, c.parts ∙ ap (λ (z : List Place). z ++ c.late) e, c.above)

pub early_first : EarlyFirst
early_first bytes rest F es all a b =
    begins (bytes ++ rest) F (length bytes) es all (a rest) b.rising b.sound (λ e h l. b.full e h)

pub early_grow : EarlyGrow
early_grow bytes more F es fs a b =
    let r : List ℕ = (bytes ++ more) ++ [] in
    let n = length-append bytes more in
    let c = b [] in
    begins r F (length bytes) es fs (subst (λ z. EndsBelow z F (length bytes) es) (sym (append_assoc bytes more [])) (a (more ++ [])))
    c.rising (λ e h. (c.sound e h).0) (λ e h l. c.full e h (omega arith))

-- the closed bytes have the recording's tape
closed_tape : (r rest : List ℕ) (i : ℕ) → i < length (closed r) → tape (closed r ++ rest) i ≡ tape r i
closed_tape r rest i l = joined_tape (closed r) rest i l ∙ go (dec_lt i (length r))
  where
    extra : List ℕ
    extra = cond (opens (tape r) (length r)) [] (feed ∷ [])

    seam : (b : Bool) → length r ≤ i → i < length (r ++ cond b [] (feed ∷ [])) → get_or (r ++ cond b [] (feed ∷ [])) i feed ≡ feed
    seam true m k = absurd (omega (arith, length-append r []))
    seam false m k =
        let e : i ≡ length r = omega (arith, length-append r (feed ∷ [])) in
        subst (λ z. get_or (r ++ (feed ∷ [])) z feed ≡ feed) (sym e) (get_or-append_seam r feed [] feed)

    go : Dec (i < length r) → tape (closed r) i ≡ tape r i
    go (yes m) = get_or-append r extra feed i m
    go (no m) =
        let k : length r ≤ i = omega arith in
        seam (opens (tape r) (length r)) k l ∙ sym (get_or-eq_default r feed k)

module _ (r : List ℕ) (F : Form) (e : Place) where
  closed_onto : e.position < length (closed r) → IsEnd r F e → IsEnd (closed r ++ []) F e
  closed_onto l h =
      moved r (closed r ++ []) F e (λ i m. sym (closed_tape r [] i (omega arith)))
      (omega (arith, closed_long (closed r ++ []), length-append (closed r) [])) h

  closed_back : e.position < length (closed r) → IsEnd (closed r ++ []) F e → IsEnd r F e
  closed_back l h = moved (closed r ++ []) r F e (λ i m. closed_tape r [] i (omega arith)) l h

  closed_inside : IsEnd r F e → e.position < length (closed r)
  closed_inside h = ((positions_agree_lem r F e).0 h).0

pub closed_ends : ClosedEnds
closed_ends r F es = (
  λ h.
      early (closed r) [] F es
      (record {
        rising = h.rising;
        sound = λ e x. let l = closed_inside r F e (h.sound e x) in (closed_onto r F e l (h.sound e x), l);
        full = λ e x l. h.full e (closed_back r F e l x);
      }),
  λ h.
      let c = h [] in
      record {
        rising = c.rising;
        sound = λ e x. let y = c.sound e x in closed_back r F e y.1 y.0;
        full = λ e x. let l = closed_inside r F e x in c.full e (closed_onto r F e l x) l;
      },
)

-- the ends of a closed recording, on any tape that begins with its closed bytes
pub closed_positions : (r : List ℕ) (F : Form) (t : ℕ → ℕ) → Holds t (closed r)
    → (e : Place) → IsEnd r F e ↔ ((e.position < length (closed r)) × Ending t F e.position × (e ≡ place_at t e.position))
closed_positions r F t agree e = (
  λ h.
      let l = closed_inside r F e h in
      let y = (early_positions (closed r) [] F t agree e l).0 (closed_onto r F e l h) in
      (l, y.0, y.1),
  λ h. closed_back r F e h.0 ((early_positions (closed r) [] F t agree e h.0).1 (h.1, h.2)),
)

pub early_none : EarlyNone
early_none F rest =
    record { rising = tt; sound = λ e h. absurd h; full = λ e h l. absurd (omega arith) }

-- the marked places of a stretch
module _ (t : ℕ → ℕ) (mark : ℕ → Bool) where
  places_from_lem : (a n : ℕ) (e : Place) → Has e (places_from t mark a n)
      → (a ≤ e.position) × (e.position < a + n) × T (mark e.position) × (e ≡ place_at t e.position)
  places_from_lem a zero e h = absurd h
  places_from_lem a (suc n) e h = go (mark a) refl h (places_from_lem (suc a) n e)
    where
      go : (b : Bool) → mark a ≡ b → Has e (cond b (place_at t a ∷ places_from t mark (suc a) n) (places_from t mark (suc a) n))
          → (Has e (places_from t mark (suc a) n)
          → (suc a ≤ e.position) × (e.position < suc a + n) × T (mark e.position) × (e ≡ place_at t e.position))
          → (a ≤ e.position) × (e.position < a + suc n) × T (mark e.position) × (e ≡ place_at t e.position)
      go true f (inl k) ih =
          let p : e.position ≡ a = ap (λ (y : Place). y.position) k in (
            omega arith,
            omega arith,
            subst (λ q. T (mark q)) (sym p) (subst T (sym f) tt),
            k ∙ ap (place_at t) (sym p),
          )
      go true f (inr k) ih = let y = ih k in (omega arith, omega arith, y.2, y.3)
      go false f k ih = let y = ih k in (omega arith, omega arith, y.2, y.3)

  places_to : (a n p : ℕ) → a ≤ p → p < a + n → T (mark p) → Has (place_at t p) (places_from t mark a n)
  places_to a zero p l u h = absurd (omega arith)
  places_to a (suc n) p l u h = go (mark a) refl (dec_lt a p) (places_to (suc a) n p)
    where
      go : (b : Bool) → mark a ≡ b → Dec (a < p) → (suc a ≤ p → p < suc a + n → T (mark p) → Has (place_at t p) (places_from t mark (suc a) n))
          → Has (place_at t p) (cond b (place_at t a ∷ places_from t mark (suc a) n) (places_from t mark (suc a) n))
      go true f (yes m) ih = inr (ih m (omega arith) h)
      go true f (no m) ih = inl (ap (place_at t) (omega arith))
      go false f (yes m) ih = ih m (omega arith) h
      go false f (no m) ih =
          let e : p ≡ a = omega arith in absurd (subst T (ap mark e ∙ f) h)

  places_rising : (a n : ℕ) → Rising (places_from t mark a n)
  places_rising a zero = tt
  places_rising a (suc n) = go (mark a) (places_rising (suc a) n)
    where
      go : (b : Bool) → Rising (places_from t mark (suc a) n)
          → Rising (cond b (place_at t a ∷ places_from t mark (suc a) n) (places_from t mark (suc a) n))
      go true h = (λ x k. omega (arith, places_from_lem (suc a) n x k), h)
      go false h = h

pub early_next : EarlyNext
early_next bytes more F es t mark early-es holds marks =
    early (bytes ++ more) [] F (es ++ new)
    (record {
      rising =
          rising_append es new (early-es []).rising (places_rising t mark n m)
          (λ x y h k. omega (arith, ((early-es []).sound x h).1, (places_from_lem t mark n m y k).0));
      sound = λ e h. sound e (has_cases e es new h);
      full = full;
    })
  where
    n : ℕ
    n = length bytes

    m : ℕ
    m = length more

    new : List Place
    new = places_from t mark (length bytes) (length more)

    both : length (bytes ++ more) ≡ length bytes + length more
    both = length-append bytes more

    r : List ℕ
    r = (bytes ++ more) ++ []

    split : EndsBelow r F (length bytes) es
    split = subst (λ z. EndsBelow z F (length bytes) es) (sym (append_assoc bytes more [])) (early-es (more ++ []))

    sound : (e : Place) → Has e es ⊎ Has e new → IsEnd r F e × (e.position < length (bytes ++ more))
    sound e (inl h) = let y = split.sound e h in (y.0, omega (arith, both))
    sound e (inr h) =
        let y = places_from_lem t mark (length bytes) (length more) e h in
        let l : e.position < length (bytes ++ more) = omega (arith, both) in
        ((early_positions (bytes ++ more) [] F t holds e l).1 ((marks e.position y.0 y.1).0 y.2, y.3), l)

    full : (e : Place) → IsEnd r F e → e.position < length (bytes ++ more) → Has e (es ++ new)
    full e h l = go (dec_lt e.position (length bytes))
      where
        go : Dec (e.position < length bytes) → Has e (es ++ new)
        go (yes k) = has_left e es new (split.full e h k)
        go (no k) =
            let y = (early_positions (bytes ++ more) [] F t holds e l).0 h in
            let c = both in
            let z = (marks e.position (omega arith) (omega arith)).1 y.0 in
            has_right e es new
            (subst (λ (x : Place). Has x new) (sym y.1)
            (places_to t mark (length bytes) (length more) e.position (omega arith) (omega arith) z))
