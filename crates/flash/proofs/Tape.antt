-- A recording as a tape, on which lines are counted and ends are listed. Assumes nothing.
use Rattle.std.proofs.Common.{◌≡◌, ℕ, zero, suc, ◌+◌, ◌-◌, Bool, true, false, cond, eqb, List, ◌∷◌, map, get_or, sym, refl, ap, ◌∙◌, arith}
use Rattle.form.specs.Positions.{line_at as tape_line, start_at, place_at}
use Rattle.form.specs.Running.{places_from}
use Rattle.marks.specs.declared.line.Line.{Line}
use Rattle.marks.specs.Counting.{end_of, Counted}
use Rattle.flash.specs.Flashes.{line_feed, complete, line_at, column_at, end_at, between}

module _ (b : List ℕ) where
  -- the byte at each position
  abbrev pub tape : ℕ → ℕ
  tape p = get_or b p 0

  line_same : (p : ℕ) → tape_line tape p ≡ line_at b p
  line_same zero = refl
  line_same (suc p) = ap (λ n. cond (eqb (get_or b p 0) line_feed) (suc n) n) (line_same p)

  -- a line's start, and how many of its bytes stand before p
  start_column : (p : ℕ) → start_at tape p + column_at b p ≡ p
  start_column zero = refl
  start_column (suc p) = go (eqb (get_or b p 0) line_feed) (start_column p)
    where
      go : (f : Bool) → start_at tape p + column_at b p ≡ p → cond f (suc p) (start_at tape p) + cond f 0 (suc (column_at b p)) ≡ suc p
      go true h = omega arith
      go false h = omega arith

  -- the line of a position, in both words
  pub to_tape : (l : Line) (p : ℕ) → l.number ≡ line_at b p → l.start + column_at b p ≡ p → Counted tape l p
  to_tape l p number column = record { line = number ∙ sym (line_same p); start = let h = start_column p in omega arith }

  pub from_tape : (l : Line) (p : ℕ) → Counted tape l p → (l.number ≡ line_at b p) × (l.start + column_at b p ≡ p)
  from_tape l p C = (C.line ∙ line_same p, ap (λ s. s + column_at b p) C.start ∙ start_column p)

  end_same : (p : ℕ) → end_at b p ≡ end_of (place_at tape p)
  end_same p =
      let n : line_at b p ≡ tape_line tape p = sym (line_same p) in
      let c : column_at b p ≡ p - start_at tape p = let h = start_column p in omega arith in
      λ i. record { line = n i; column = c i; position = p }

  -- the ends between two positions
  pub between_places : (p n : ℕ) → between b p n ≡ map end_of (places_from tape (complete b) p n)
  unfolding between
  between_places p zero = refl
  between_places p (suc n) =
      let e : end_at b p ≡ end_of (place_at tape p) = end_same p in
      let r : between b (suc p) n ≡ map end_of (places_from tape (complete b) (suc p) n) = between_places (suc p) n in
      (λ i. cond (complete b p) (e i ∷ r i) (r i)) ∙ sym (spread (complete b p))
    where
      spread : (m : Bool) → map end_of (cond m (place_at tape p ∷ places_from tape (complete b) (suc p) n) (places_from tape (complete b) (suc p) n))
          ≡ cond m (end_of (place_at tape p) ∷ map end_of (places_from tape (complete b) (suc p) n)) (map end_of (places_from tape (complete b) (suc p) n))
      spread true = refl
      spread false = refl
