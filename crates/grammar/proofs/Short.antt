-- A short list is its elements. Assumes nothing.
use Rattle.std.proofs.Common.{◌≡◌, ℕ, List, [], ◌∷◌, length, get_or, arith}

pub two : (w : List ℕ) (a b : ℕ) → length w ≡ 2 → get_or w 0 0 ≡ a → get_or w 1 0 ≡ b → w ≡ a ∷ b ∷ []
two [] a b e p q = absurd (omega arith)
two (x ∷ []) a b e p q = absurd (omega arith)
two (x ∷ y ∷ []) a b e p q = cc
two (x ∷ y ∷ z ∷ w) a b e p q = absurd (omega arith)

pub three : (w : List ℕ) (a b c : ℕ) → length w ≡ 3 → get_or w 0 0 ≡ a → get_or w 1 0 ≡ b → get_or w 2 0 ≡ c → w ≡ a ∷ b ∷ c ∷ []
three [] a b c e p q r = absurd (omega arith)
three (x ∷ w) a b c e p q r = let s = two w b c (omega arith) q r in cc

pub four : (w : List ℕ) (a b c d : ℕ) → length w ≡ 4 → get_or w 0 0 ≡ a → get_or w 1 0 ≡ b → get_or w 2 0 ≡ c → get_or w 3 0 ≡ d → w ≡ a ∷ b ∷ c ∷ d ∷ []
four [] a b c d e p q r s = absurd (omega arith)
four (x ∷ w) a b c d e p q r s = let h = three w b c d (omega arith) q r s in cc

pub five : (w : List ℕ) (a b c d f : ℕ) → length w ≡ 5 → get_or w 0 0 ≡ a → get_or w 1 0 ≡ b → get_or w 2 0 ≡ c → get_or w 3 0 ≡ d → get_or w 4 0 ≡ f → w ≡ a ∷ b ∷ c ∷ d ∷ f ∷ []
five [] a b c d f e p q r s t = absurd (omega arith)
five (x ∷ w) a b c d f e p q r s t = let h = four w b c d f (omega arith) q r s t in cc
