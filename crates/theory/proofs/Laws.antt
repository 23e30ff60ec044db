-- What is asked of a block's rows: that a row `m` has marks `H m` at places from a on and before b, and that each operation does what it says.
-- Assumes nothing.
use mathlib.Core.Bool.{Bool}
use mathlib.Core.Logic.{◌⊎◌}
use Prim.Native.Nat.{ℕ, ◌<◌, ◌≤◌}
use lib.Dec.{T}
use Rattle.theory.specs.Pattern.{Streams, leaf, many, Matches}
use Rattle.theory.specs.Block.{Ops, Reach, Cont}

pub record Laws (t : Streams) (a b : ℕ) (Row : Type 0) (o : Ops Row) (H : Row → ℕ → Type 0) : Type 0 where
  pub wide : a < b
  pub low : (m : Row) (p : ℕ) → H m p → a ≤ p
  pub high : (m : Row) (p : ℕ) → H m p → p < b
  pub step_from : (C : ℕ) (k : Bool) (m : Row) (p : ℕ) → H (o.step C k m) p → Reach t a (leaf C) k (H m) p
  pub step_to : (C : ℕ) (k : Bool) (m : Row) (p : ℕ) → p < b → Reach t a (leaf C) k (H m) p → H (o.step C k m) p
  pub fall_from : (C : ℕ) (m : Row) → T (o.fall C m) → (s : ℕ) × H m s × Matches t (leaf C) s b
  pub fall_to : (C : ℕ) (m : Row) (s : ℕ) → H m s → Matches t (leaf C) s b → T (o.fall C m)
  pub run_from : (C : ℕ) (k : Bool) (m : Row) (p : ℕ) → H (o.run C k m) p → Reach t a (many C) k (H m) p
  pub run_to : (C : ℕ) (k : Bool) (m : Row) (p : ℕ) → p < b → Reach t a (many C) k (H m) p → H (o.run C k m) p
  pub run_fall_from : (C : ℕ) (k : Bool) (m : Row) (p : ℕ) → Cont t b (many C) (o.run_fall C k m) p → Reach t a (many C) k (H m) p
  pub run_fall_to : (C : ℕ) (k : Bool) (m : Row) (p : ℕ) → b ≤ p → Reach t a (many C) k (H m) p → Cont t b (many C) (o.run_fall C k m) p
  pub both_from : (m n : Row) (p : ℕ) → H (o.both m n) p → H m p ⊎ H n p
  pub both_left : (m n : Row) (p : ℕ) → H m p → H (o.both m n) p
  pub both_right : (m n : Row) (p : ℕ) → H n p → H (o.both m n) p
  pub heads_from : (m : Row) (p : ℕ) → H (o.heads m) p → H m p × T (t.starts p)
  pub heads_to : (m : Row) (p : ℕ) → H m p → T (t.starts p) → H (o.heads m) p
  pub tails_from : (m : Row) (p : ℕ) → H (o.tails m) p → H m p × (T (t.feeds p))
  pub tails_to : (m : Row) (p : ℕ) → H m p → T (t.feeds p) → H (o.tails m) p
