-- The form that a text describes, and its weight. Assumes nothing.
use Rattle.std.specs.Prelude.{ℕ, ◌+◌, ◌*◌, List, [], ◌∷◌, length}

-- the byte values from `low` to `high`, both included
pub record Item : Type 0 where
  pub low : ℕ
  pub high : ℕ

mutual
  -- An expression over the bytes of one line. `set` and `out` take one byte, in some item or in none; `quote` takes its bytes;
  -- `rep m n` repeats its part at least m and at most n times.
  pub data Form : Type 0 where
    quote : List ℕ → Form
    set : List Item → Form
    out : List Item → Form
    seq : Forms → Form
    or : Forms → Form
    star : Form → Form
    rep : ℕ → ℕ → Form → Form
    start : Form
    end : Form

  pub data Forms : Type 0 where
    nil : Forms
    cons : Form → Forms → Forms

-- what a form weighs
abbrev mutual
  pub weight : Form → ℕ
  weight (quote bytes) = 1 + length bytes
  weight (set items) = 1
  weight (out items) = 1
  weight (seq parts) = 1 + weights parts
  weight (or parts) = 1 + weights parts
  weight (star part) = 1 + weight part
  weight (rep least most part) = 1 + most * weight part
  weight start = 1
  weight end = 1

  pub weights : Forms → ℕ
  weights nil = 0
  weights (cons part parts) = weight part + weights parts
