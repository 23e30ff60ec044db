-- The ends by lines are the ends by positions. Assumes nothing.
use Rattle.std.proofs.Common.{◌≡◌, ℕ, zero, suc, pred, ◌+◌, ◌<◌, ◌≤◌, Bool, true, false, cond, not, T, eqb, ◌⊎◌, List, [], ◌∷◌, ◌++◌, length, get_or, sym, refl, ap, ◌∙◌, subst, inl, inr, arith, eqb→eq, length-append, get_or-append-add}
use native.Mathlib.Decide.{dec_lt}
use lib.ListN.{get_or-append, get_or-eq_default}
use lib.Seq.{get_or-append_seam}
use Rattle.std.proofs.lemmas.List.{get_or_default}
use Rattle.form.specs.Form.{Form}
use Rattle.form.specs.Meaning.{feed}
use Rattle.form.specs.Lines.{begin, lines, Place, LineEnd, SomeEnd}
use Rattle.form.specs.Positions.{opens, Ending, tape, closed, line_at, place_at, PositionsAgree}
use Rattle.form.proofs.Bits.{cond_true, cond_false}
use Rattle.form.proofs.InLine.{Plain, Stands, line_next, line_to, line_from}

-- a last line, with no line feed behind it
record Last (r : List ℕ) : Type 0 where
  pub some : 0 < length r
  pub plain : Plain r
  pub cut : lines r ≡ r ∷ []

-- a line and its line feed, before the rest
record Front (r : List ℕ) : Type 0 where
  pub line : List ℕ
  pub rest : List ℕ
  pub plain : Plain line
  pub parts : r ≡ line ++ (feed ∷ rest)
  pub cut : lines r ≡ line ∷ lines rest

plain_more : (b : ℕ) (line : List ℕ) → T (not (eqb b feed)) → Plain line → Plain (b ∷ line)
plain_more b line h p zero l = h
plain_more b line h p (suc i) l = p i (omega arith)

split : (r : List ℕ) → (r ≡ []) ⊎ Last r ⊎ Front r
split [] = inl refl
split (b ∷ r) = go (eqb b feed) refl (split r)
  where
    plain_none : Plain []
    plain_none i l = absurd (omega arith)

    holds : (x : Bool) → eqb b feed ≡ x → T x → T (eqb b feed)
    holds x e h = subst T (sym e) h

    go : (x : Bool) → eqb b feed ≡ x → (r ≡ []) ⊎ Last r ⊎ Front r → (b ∷ r ≡ []) ⊎ Last (b ∷ r) ⊎ Front (b ∷ r)
    go true e h =
        inr
        (inr
        (record {
          line = [];
          rest = r;
          plain = plain_none;
          parts = λ i. eqb→eq b feed (holds true e tt) i ∷ r;
          cut = ap (λ x. cond x ([] ∷ lines r) (begin b (lines r))) e;
        }))
    go false e (inl h) =
        inr
        (inl
        (record {
          some = omega arith;
          plain =
              subst (λ z. Plain (b ∷ z)) (sym h) (plain_more b [] (subst (λ x. T (not x)) (sym e) tt) plain_none);
          cut =
              ap (λ x. cond x ([] ∷ lines r) (begin b (lines r))) e
              ∙ subst (λ z. begin b (lines z) ≡ (b ∷ z) ∷ []) (sym h) refl;
        }))
    go false e (inr (inl h)) =
        inr
        (inl
        (record {
          some = omega arith;
          plain = plain_more b r (subst (λ x. T (not x)) (sym e) tt) h.plain;
          cut = ap (λ x. cond x ([] ∷ lines r) (begin b (lines r))) e ∙ ap (begin b) h.cut;
        }))
    go false e (inr (inr h)) =
        inr
        (inr
        (record {
          line = b ∷ h.line;
          rest = h.rest;
          plain = plain_more b h.line (subst (λ x. T (not x)) (sym e) tt) h.plain;
          parts = ap (λ (z : List ℕ). b ∷ z) h.parts;
          cut = ap (λ x. cond x ([] ∷ lines r) (begin b (lines r))) e ∙ ap (begin b) h.cut;
        }))

-- The tape t has N bytes, and X positions that are part of a line: N, and one more where the last line is not closed.
module _ (F : Form) (t : ℕ → ℕ) (N X : ℕ) (shut : T (opens t N) → X ≡ N) (left : T (not (opens t N)) → X ≡ suc N) where
  abbrev Behind : ℕ → Place → Type 0
  Behind a e = (a ≤ e.position) × (e.position < X) × Ending t F e.position × (e ≡ place_at t e.position)

  -- from a on the tape has the bytes r, to its end, and a line starts there
  record Rest (a : ℕ) (r : List ℕ) : Type 0 where
    pub opened : T (opens t a)
    pub whole : a + length r ≡ N
    pub same : (i : ℕ) → t (a + i) ≡ get_or r i feed

  at_least : N ≤ X
  at_least = go (opens t N) shut left
    where
      go : (b : Bool) → (T b → X ≡ N) → (T (not b) → X ≡ suc N) → N ≤ X
      go true f g = omega (arith, f tt)
      go false f g = omega (arith, g tt)

  last_stands : (a : ℕ) (r : List ℕ) → Rest a r → Last r → Stands t a r
  last_stands a r h l =
      record {
        opened = h.opened;
        plain = l.plain;
        same = λ i m. h.same i ∙ get_or_default r i feed 0 m;
        closing =
            subst (λ b. T (eqb b feed)) (sym (h.same (length r) ∙ get_or-eq_default r feed (omega arith))) tt;
      }

  -- the last byte is no line feed
  last_left : (a : ℕ) (r : List ℕ) → Rest a r → Last r → X ≡ suc N
  last_left a r h l =
      let i : ℕ = pred (length r) in
      let m : i < length r = omega (arith, l.some) in
      let e : N ≡ suc (a + i) = omega (arith, l.some, h.whole) in
      let f : t (a + i) ≡ get_or r i 0 = h.same i ∙ get_or_default r i feed 0 m in
      left (subst (λ z. T (not (opens t z))) (sym e) (subst (λ b. T (not (eqb b feed))) (sym f) (l.plain i m)))

  front_stands : (a : ℕ) (r : List ℕ) → Rest a r → (f : Front r) → Stands t a f.line
  front_stands a r h f =
      let line = f.line in
      let rest = f.rest in
      let same : (i : ℕ) → t (a + i) ≡ get_or (line ++ (feed ∷ rest)) i feed =
      λ i. h.same i ∙ ap (λ (z : List ℕ). get_or z i feed) f.parts in
      record {
        opened = h.opened;
        plain = f.plain;
        same = λ i m. same i ∙ (get_or-append line (feed ∷ rest) feed i m ∙ get_or_default line i feed 0 m);
        closing =
            subst (λ b. T (eqb b feed)) (sym (same (length line) ∙ get_or-append_seam line feed rest feed)) tt;
      }

  front_rest : (a : ℕ) (r : List ℕ) → Rest a r → (f : Front r) → Rest (a + suc (length f.line)) f.rest
  front_rest a r h f =
      let line = f.line in
      let rest = f.rest in
      let n : length r ≡ length line + suc (length rest) = ap length f.parts ∙ length-append line (feed ∷ rest) in
      let e : a + suc (length line) ≡ suc (a + length line) = omega arith in
      record {
        opened = subst (λ z. T (opens t z)) (sym e) (front_stands a r h f).closing;
        whole = omega (arith, h.whole);
        same =
            λ i.
            let g : (a + suc (length line)) + i ≡ a + (length line + suc i) = omega arith in
            ap t g
            ∙ (h.same (length line + suc i)
            ∙ (ap (λ (z : List ℕ). get_or z (length line + suc i) feed) f.parts
            ∙ get_or-append-add line (feed ∷ rest) (suc i) feed));
      }

  abbrev Some : ℕ → List ℕ → Place → Type 0
  Some a r e = SomeEnd F (line_at t a) a (lines r) e

  to_cases : (a : ℕ) (r : List ℕ) (e : Place) → Rest a r
      → ((b : ℕ) (q : List ℕ) → length q < length r → Rest b q → Some b q e → Behind b e)
      → (r ≡ []) ⊎ Last r ⊎ Front r → Some a r e → Behind a e
  to_cases a r e h ih (inl n) s = absurd (subst (λ z. Some a z e) n s)
  to_cases a r e h ih (inr (inl l)) s = go (subst (λ z. SomeEnd F (line_at t a) a z e) l.cut s)
    where
      go : LineEnd F (line_at t a) a r e ⊎ ⊥ → Behind a e
      go (inl x) =
          let y = line_to t a r (last_stands a r h l) F e x in
          (y.0, omega (arith, last_left a r h l, h.whole), y.2, y.3)
      go (inr x) = absurd x
  to_cases a r e h ih (inr (inr f)) s = go (subst (λ z. SomeEnd F (line_at t a) a z e) f.cut s)
    where
      fewer : length f.rest < length r
      fewer = omega (arith, ap length f.parts, length-append f.line (feed ∷ f.rest))

      go : LineEnd F (line_at t a) a f.line e ⊎ SomeEnd F (suc (line_at t a)) (a + suc (length f.line)) (lines f.rest) e → Behind a e
      go (inl x) =
          let y = line_to t a f.line (front_stands a r h f) F e x in
          (y.0, omega (arith, at_least, h.whole, ap length f.parts, length-append f.line (feed ∷ f.rest)), y.2, y.3)
      go (inr x) =
          let y =
          ih (a + suc (length f.line)) f.rest fewer (front_rest a r h f)
          (subst (λ z. SomeEnd F z (a + suc (length f.line)) (lines f.rest) e)
          (sym (line_next t a f.line (front_stands a r h f))) x) in
          (omega arith, y.1, y.2, y.3)

  from_cases : (a : ℕ) (r : List ℕ) (e : Place) → Rest a r
      → ((b : ℕ) (q : List ℕ) → length q < length r → Rest b q → Behind b e → Some b q e)
      → (r ≡ []) ⊎ Last r ⊎ Front r → Behind a e → Some a r e
  from_cases a r e h ih (inl n) s =
      let m : a ≡ N = omega (arith, h.whole, ap length n) in
      absurd (omega (arith, shut (subst (λ z. T (opens t z)) m h.opened)))
  from_cases a r e h ih (inr (inl l)) s =
      subst (λ z. SomeEnd F (line_at t a) a z e) (sym l.cut)
      (inl (line_from t a r (last_stands a r h l) F e (s.0, omega (arith, last_left a r h l, h.whole), s.2, s.3)))
  from_cases a r e h ih (inr (inr f)) s =
      subst (λ z. SomeEnd F (line_at t a) a z e) (sym f.cut)
      (go (dec_lt e.position (a + suc (length f.line))))
    where
      fewer : length f.rest < length r
      fewer = omega (arith, ap length f.parts, length-append f.line (feed ∷ f.rest))

      go : Dec (e.position < a + suc (length f.line))
          → LineEnd F (line_at t a) a f.line e ⊎ SomeEnd F (suc (line_at t a)) (a + suc (length f.line)) (lines f.rest) e
      go (yes m) = inl (line_from t a f.line (front_stands a r h f) F e (s.0, omega arith, s.2, s.3))
      go (no m) =
          inr
          (subst (λ z. SomeEnd F z (a + suc (length f.line)) (lines f.rest) e)
          (line_next t a f.line (front_stands a r h f))
          (ih (a + suc (length f.line)) f.rest fewer (front_rest a r h f) (omega arith, s.1, s.2, s.3)))

  some_to : (fuel a : ℕ) (r : List ℕ) → length r < fuel → (e : Place) → Rest a r → Some a r e → Behind a e
  some_to zero a r l e h s = absurd (omega arith)
  some_to (suc fuel) a r l e h s = to_cases a r e h (λ b q m. some_to fuel b q (omega arith) e) (split r) s

  some_from : (fuel a : ℕ) (r : List ℕ) → length r < fuel → (e : Place) → Rest a r → Behind a e → Some a r e
  some_from zero a r l e h s = absurd (omega arith)
  some_from (suc fuel) a r l e h s = from_cases a r e h (λ b q m. some_from fuel b q (omega arith) e) (split r) s

pub closed_shut : (r : List ℕ) → T (opens (tape r) (length r)) → length (closed r) ≡ length r
closed_shut r h =
    length-append r (cond (opens (tape r) (length r)) [] (feed ∷ []))
    ∙ omega (arith, ap length (cond_true (opens (tape r) (length r)) [] (feed ∷ []) h))

pub closed_left : (r : List ℕ) → T (not (opens (tape r) (length r))) → length (closed r) ≡ suc (length r)
closed_left r h =
    length-append r (cond (opens (tape r) (length r)) [] (feed ∷ []))
    ∙ omega (arith, ap length (cond_false (opens (tape r) (length r)) [] (feed ∷ []) h))

pub positions_agree_lem : PositionsAgree
positions_agree_lem r F e = (
  λ x. let y = some_to F t N X f g (suc N) 0 r (omega arith) e rest x in (y.1, y.2, y.3),
  λ y. some_from F t N X f g (suc N) 0 r (omega arith) e rest (omega arith, y.0, y.1, y.2),
)
  where
    t : ℕ → ℕ
    t = tape r

    N : ℕ
    N = length r

    X : ℕ
    X = length (closed r)

    f : T (opens t N) → X ≡ N
    f = closed_shut r

    g : T (not (opens t N)) → X ≡ suc N
    g = closed_left r

    rest : Rest F t N X f g 0 r
    rest = record { opened = tt; whole = omega arith; same = λ i. ap t (omega arith) }
