-- Tables of rows. Assumes nothing.
use Rattle.std.proofs.Common.{◌≡◌, ℕ, zero, suc, ◌+◌, ◌<◌, Bool, ◌≢◌, List, [], ◌∷◌, ◌++◌, map, length, get_or, set, take, drop, sym, ap, ◌∙◌, subst, arith, get_or-set_other, get_or-set_same}
use native.Mathlib.Decide.{dec_lt}
use Rattle.std.proofs.lemmas.List.{drop_at, get_or_append_left, get_or-map, get_or-take, length-map, map-append, map-set, take-map}
use Rattle.block.specs.Rows.{bit}
use Rattle.block.proofs.Rows.{value_ext}
use Rattle.stream.specs.Tables.{rows, held, basis, Transposed}

module _ {B : Type 0} (row : B → List Bool) where
  -- what is read
  pub rows_get : (table : List B) (i : ℕ) (d : B) → i < length table → rows row table i ≡ row (get_or table i d)
  rows_get table i d h = get_or-map row table i d [] h

  pub rows_read : (table : List B) (i : ℕ) (b : B) → i < length table → b ≡ get_or table i b → rows row table i ≡ row b
  rows_read table i b h e = rows_get table i b h ∙ ap row (sym e)

  -- the first blocks, apart from those behind them
  pub rows_front : (front rest : List B) (i : ℕ) → i < length front → rows row (front ++ rest) i ≡ rows row front i
  rows_front front rest i h =
      ap (λ l. get_or l i []) (map-append row front rest) ∙ get_or_append_left (map row front) (map row rest) [] i (omega (arith, length-map front row))

  pub rows_take : (n : ℕ) (table : List B) (i : ℕ) → i < n → rows row (take n table) i ≡ rows row table i
  rows_take n table i h = ap (λ l. get_or l i []) (sym (take-map row n table)) ∙ get_or-take n (map row table) i [] h

  pub held_front : (table front : List B) (i : ℕ) → front ≡ take 8 table → held (rows row front) i ≡ held (rows row table) i
  held_front table front i e =
      ap (λ t. held (rows row t) i) e
      ∙ value_ext 8 (λ j. bit (rows row (take 8 table) j) i) (λ j. bit (rows row table j) i) (λ j l. ap (λ r. bit r i) (rows_take 8 table j l))

  -- eight blocks that hold the bytes, put back before the rest of their table
  pub transposed : (w : ℕ) (bytes : List ℕ) (old front : List B) → length front ≡ 8 → ((j : ℕ) → j < 8 → rows row front j ≡ basis w bytes j)
      → Transposed row w bytes old (front ++ drop 8 old)
  transposed w bytes old front eight h =
      record { first = λ j l. rows_front front (drop 8 old) j (omega arith) ∙ h j l; later = drop_at front (drop 8 old) 8 eight }

  pub rows_wide : (w : ℕ) → ((b : B) → length (row b) ≡ w) → (table : List B) (i : ℕ) → i < length table → length (rows row table i) ≡ w
  rows_wide w wide [] i h = absurd (omega arith)
  rows_wide w wide (b ∷ table) zero h = wide b
  rows_wide w wide (b ∷ table) (suc i) h = rows_wide w wide table i (omega arith)

  module _ (table : List B) (i : ℕ) (b : B) where
    pub rows_here : i < length table → rows row (set table i b) i ≡ row b
    rows_here h = ap (λ l. get_or l i []) (map-set row table i b) ∙ get_or-set_same (map row table) i (row b) [] (omega (arith, length-map table row))

    pub rows_other : (j : ℕ) → j ≢ i → rows row (set table i b) j ≡ rows row table j
    rows_other j n = ap (λ l. get_or l j []) (map-set row table i b) ∙ get_or-set_other (map row table) i j (row b) [] n

    -- row by row: what holds of those below i, and of the one that is written
    pub rows_more : (P : ℕ → List Bool → Type 0) → i < length table → P i (row b) → ((j : ℕ) → j < i → P j (rows row table j))
        → (j : ℕ) → j < i + 1 → P j (rows row (set table i b) j)
    rows_more P h p below j l =
        elim (dec_lt j i) [
          | yes u ↦ subst (P j) (sym (rows_other j (λ e. omega arith))) (below j u)
          | no u ↦ let e : i ≡ j = omega arith in subst (λ k. P k (rows row (set table i b) k)) e (subst (P i) (sym (rows_here h)) p)
        ]
