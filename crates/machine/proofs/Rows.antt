-- The rows that a block is made ready with. Assumes nothing.
use Rattle.std.proofs.Common.{◌≡◌, ℕ, ◌+◌, ◌-◌, ◌^◌, ◌<◌, ◌≤◌, Bool, true, false, ◌||◌, eqb, List, [], ◌++◌, map, length, get_or, set, sym, refl, ap, ◌∙◌, arith, length-set, get_or-append-add}
use lib.ListN.{get_or-append}
use Rattle.std.proofs.lemmas.List.{length-map, map-append}
use Rattle.block.specs.Rows.{bit, tab}
use Rattle.block.specs.Calls.{enters, Advance}
use Rattle.block.proofs.Rows.{tab_ext, value_ext}
use Rattle.form.specs.Meaning.{feed}
use Rattle.stream.specs.Sets.{has}
use Rattle.stream.specs.Tables.{rows, held, Transposed}
use Rattle.stream.specs.declared.set.ByteSet.{ByteSet}
use Rattle.stream.proofs.Tables.{rows_here, rows_other}
use Rattle.stream.proofs.Backs.{held_basis}
use Rattle.program.specs.Compile.{classes_at, feeds_at, starts_at}
use Rattle.machine.specs.Matching.{feeds_of}
use Rattle.machine.specs.Ruling.{Rules, no_set}

-- the bytes are in the first eight rows
held_same : (f g : ℕ → List Bool) → ((j : ℕ) → j < 8 → f j ≡ g j) → (i : ℕ) → held f i ≡ held g i
held_same f g h i = value_ext 8 _ _ (λ j l. ap (λ r. bit r i) (h j l))

module _ {B : Type 0} (row : B → List Bool) (front back : List B) where
  rows_front : (i : ℕ) → i < length front → rows row (front ++ back) i ≡ rows row front i
  rows_front i l = ap (λ t. get_or t i []) (map-append row front back) ∙ get_or-append (map row front) (map row back) [] i (omega (arith, length-map front row))

  rows_back : (i : ℕ) → rows row (front ++ back) (length front + i) ≡ rows row back i
  rows_back i =
      ap (λ t. get_or t (length front + i) []) (map-append row front back)
      ∙ ap (λ n. get_or (map row front ++ map row back) (n + i) []) (sym (length-map front row))
      ∙ get_or-append-add (map row front) (map row back) i []

module _ {B : Type 0} (row : B → List Bool) (w : ℕ) (sets : List ByteSet) where
  -- the rows of the classes before c, of the bytes that a table holds
  abbrev pub Classes : List B → (ℕ → List Bool) → ℕ → Type 0
  Classes table made n = (k : ℕ) → k < n → made k ≡ tab w (λ i. has (get_or sets k no_set) (held (rows row table) i))

  -- rows that were made behind the table
  pub classes_behind : (table old new : List B) (n : ℕ) → length table ≡ classes_at → Classes table (rows row new) n
      → Classes (table ++ old) (λ k. rows row (table ++ new) (classes_at + k)) n
  classes_behind table old new n size made k l =
      ap (λ a. rows row (table ++ new) (a + k)) (sym size)
      ∙ rows_back row table new k ∙ made k l
      ∙ tab_ext w _ _ (λ i _. ap (has (get_or sets k no_set)) (held_same (rows row table) (rows row (table ++ old)) (λ j m. sym (rows_front row table old j (omega arith))) i))

or_false : (x : Bool) → (x || false) ≡ x
or_false true = refl
or_false false = refl

module _ {B : Type 0} (row : B → List Bool) (w : ℕ) (bytes : List ℕ) (start : Bool) (sets : List ByteSet) (old table blocks : List B)
    (T : Transposed row w bytes old table) (byte : (i : ℕ) → get_or bytes i 0 < 2 ^ 8) (feeds starts : B) (out : Bool) where
  at : (i : ℕ) → i < w → held (rows row table) i ≡ get_or bytes i 0
  at i l = held_basis w bytes (rows row table) T.first i l (byte i)

  pub feed_row_lem : (empty one : ByteSet) → ((v : ℕ) → v < 256 → has empty v ≡ false) → ((v : ℕ) → v < 256 → has one v ≡ (eqb v feed || has empty v))
      → row feeds ≡ tab w (λ i. has one (held (rows row table) i)) → row feeds ≡ feeds_of w bytes
  feed_row_lem empty one none with e =
      e
      ∙ tab_ext w _ _
      (λ i l.
      let v : ℕ = get_or bytes i 0 in
      ap (has one) (at i l) ∙ with v (byte i) ∙ ap (λ y. eqb v feed || y) (none v (byte i)) ∙ or_false (eqb v feed))

  pub ruled : row feeds ≡ feeds_of w bytes → Advance w (row feeds) start (row starts) out → classes_at + length sets ≤ length blocks
      → Classes row w sets table (λ k. rows row blocks (classes_at + k)) (length sets)
      → Rules w bytes start sets (rows row (set (set blocks feeds_at feeds) starts_at starts)) × (row feeds ≡ feeds_of w bytes) × (out ≡ bit (feeds_of w bytes) (w - 1))
  ruled ef A room done =
      let long : length (set blocks feeds_at feeds) ≡ length blocks = simp length-set in
      let far : (i : ℕ) → starts_at < i → rows row (set (set blocks feeds_at feeds) starts_at starts) i ≡ rows row blocks i =
      λ i l. rows_other row (set blocks feeds_at feeds) starts_at starts i (λ q. omega arith) ∙ rows_other row blocks feeds_at feeds i (λ q. omega arith) in (
        record {
          feeds = rows_other row (set blocks feeds_at feeds) starts_at starts feeds_at (λ q. omega arith) ∙ rows_here row blocks feeds_at feeds (omega arith) ∙ ef;
          starts = rows_here row (set blocks feeds_at feeds) starts_at starts (omega arith) ∙ A.moved ∙ ap (λ r. tab w (enters start (bit r))) ef;
          classes =
              λ c l.
              far (classes_at + c) (omega arith) ∙ done c l ∙ tab_ext w _ _ (λ i k. ap (has (get_or sets c no_set)) (at i k));
        },
        ef,
        A.fallen ∙ ap (λ r. bit r (w - 1)) ef,
      )
