-- Patterns over bit streams, and what they match between two positions. Assumes nothing.
use Rattle.std.specs.Prelude.{◌≡◌, Bool, ◌⊎◌, ℕ, suc, T}

-- `leaf` takes one byte of the class of this number, `many` any number of them, `plus` one or more; `opt` is its part or nothing; `head` and `tail` are
-- the start and the end of a line.
pub data Pattern : Type 0 where
  leaf : ℕ → Pattern
  many : ℕ → Pattern
  plus : ℕ → Pattern
  eps : Pattern
  seq : Pattern → Pattern → Pattern
  alt : Pattern → Pattern → Pattern
  opt : Pattern → Pattern
  star : Pattern → Pattern
  head : Pattern
  tail : Pattern

-- what is known of the byte at each position: of which classes it is, whether a line starts there, whether it is a line feed
pub record Streams : Type 0 where
  pub class : ℕ → ℕ → Bool
  pub starts : ℕ → Bool
  pub feeds : ℕ → Bool

-- Any number of steps of R, from the last argument to p. The index is a variable in each constructor,
-- so that a match on it solves no equation.
pub data Steps (R : ℕ → ℕ → Type 0) (p : ℕ) : ℕ → Type 0 where
  stop : {s : ℕ} → s ≡ p → Steps R p s
  more : {s : ℕ} (q : ℕ) → R s q → Steps R p q → Steps R p s

-- one byte of the class C, from s to p
abbrev pub Takes : Streams → ℕ → ℕ → ℕ → Type 0
Takes t C s p = (p ≡ suc s) × T (t.class C s)

-- F matches from s to p
abbrev pub Matches : Streams → Pattern → ℕ → ℕ → Type 0
Matches t (leaf C) s p = Takes t C s p
Matches t (many C) s p = Steps (Takes t C) p s
Matches t (plus C) s p = (q : ℕ) × Takes t C s q × Steps (Takes t C) p q
Matches t eps s p = s ≡ p
Matches t (seq F G) s p = (q : ℕ) × Matches t F s q × Matches t G q p
Matches t (alt F G) s p = Matches t F s p ⊎ Matches t G s p
Matches t (opt F) s p = (s ≡ p) ⊎ Matches t F s p
Matches t (star F) s p = Steps (Matches t F) p s
Matches t head s p = (s ≡ p) × T (t.starts s)
Matches t tail s p = (s ≡ p) × T (t.feeds s)
