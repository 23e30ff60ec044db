-- What a merge makes of two rows, place by place: of the two bits, and of the carry of their sum. Assumes nothing.
use Rattle.std.specs.Prelude.{◌≡◌, ℕ, Bool}
use Rattle.block.specs.Sums.{over}

-- each bit that a call may answer is what f makes of the bits that it got
abbrev pub Computes : (Bool → Bool → Bool → Bool → Type 0) → (Bool → Bool → Bool → Bool) → Type 0
Computes answers f = (x y carry bit : Bool) → answers x y carry bit → bit ≡ f x y carry

abbrev pub merged : (Bool → Bool → Bool → Bool) → (ℕ → Bool) → (ℕ → Bool) → Bool → ℕ → Bool
merged f x y enter i = f (x i) (y i) (over x y enter i)
