-- Two rows of v bits behind one another: place by place, one place on, and as numbers. Assumes nothing.
use Rattle.std.proofs.Common.{◌≡◌, ℕ, zero, suc, ◌+◌, ◌-◌, ◌*◌, ◌^◌, ◌<◌, ◌≤◌, Bool, List, ◌++◌, length, sym, ap, ◌∙◌, ap₂, arith, pow-add}
use native.Mathlib.Decide.{dec_lt}
use Rattle.block.specs.Rows.{bit, tab, worth, value}
use Rattle.block.specs.Calls.{enters, Advance, Add}
use Rattle.block.proofs.Rows.{bit_at, length-tab, tab_is, enters_ext, enters_last, length_joined, bit_early, bit_late, value_ext, value_joined}

-- the row a, of v bits, with c behind it
module _ (v : ℕ) (a c : List Bool) (la : length a ≡ v) where
  pub early : (i : ℕ) → i < v → bit (a ++ c) i ≡ bit a i
  early i h = bit_early a c i (omega arith)

  pub late : (i : ℕ) → bit (a ++ c) (v + i) ≡ bit c i
  late i = ap (λ n. bit (a ++ c) (n + i)) (sym la) ∙ bit_late a c i

  -- a place that is not in a is in c
  pub behind : (i : ℕ) → v ≤ i → bit (a ++ c) i ≡ bit c (i - v)
  behind i h = let back : i ≡ v + (i - v) = omega arith in ap (bit (a ++ c)) back ∙ late (i - v)

  value_halves : value (v + v) (bit (a ++ c)) ≡ value v (bit a) + value v (bit c) * 2 ^ v
  value_halves =
      value_joined v v (bit (a ++ c))
      ∙ ap₂ (λ x y. x + y * 2 ^ v) (value_ext v (bit (a ++ c)) (bit a) early) (value_ext v (λ i. bit (a ++ c) (v + i)) (bit c) (λ i l. late i))

-- two rows of v bits that are known by functions
joined : (v : ℕ) (l m : List Bool) (f g h : ℕ → Bool) → l ≡ tab v f → m ≡ tab v g → ((i : ℕ) → i < v → f i ≡ h i) → ((i : ℕ) → i < v → g i ≡ h (v + i))
    → l ++ m ≡ tab (v + v) h
joined v l m f g h el em low high =
    tab_is (l ++ m) (v + v) h (length_joined l m ∙ ap₂ ◌+◌ long (ap length em ∙ length-tab v g))
    (λ i u.
    elim (dec_lt i v) [
      | yes b ↦ early v l m long i b ∙ bit_at v l f el i b ∙ low i b
      | no b ↦
          let back : v + (i - v) ≡ i = omega arith in
          behind v l m long i (omega arith) ∙ bit_at v m g em (i - v) (omega arith) ∙ high (i - v) (omega arith) ∙ ap h back
    ])
  where
    long : length l ≡ v
    long = ap length el ∙ length-tab v f

-- the rows a then c, and b then d
module _ (v : ℕ) (a b c d : List Bool) (la : length a ≡ v) (lb : length b ≡ v) where
  -- what is done place by place is done half by half
  pub halves : (op : Bool → Bool → Bool) (l m : List Bool) → l ≡ tab v (λ i. op (bit a i) (bit b i)) → m ≡ tab v (λ i. op (bit c i) (bit d i))
      → l ++ m ≡ tab (v + v) (λ i. op (bit (a ++ c) i) (bit (b ++ d) i))
  halves op l m el em =
      joined v l m _ _ _ el em (λ i h. ap₂ op (sym (early v a c la i h)) (sym (early v b d lb i h))) (λ i h. ap₂ op (sym (late v a c la i)) (sym (late v b d lb i)))

  -- the carry of the first half's sum enters the second's
  pub added : (k mid out : Bool) (l m : List Bool) → length l ≡ v → Add v a b k l mid → Add v c d mid m out → Add (v + v) (a ++ c) (b ++ d) k (l ++ m) out
  added k mid out l m ll first second =
      let P : ℕ = 2 ^ v in
      let square : worth out * 2 ^ (v + v) ≡ worth out * P * P = ap (λ n. worth out * n) (pow-add 2 v v) ∙ omega arith in
      let high : (value v (bit m) + worth out * P) * P ≡ (value v (bit c) + value v (bit d) + worth mid) * P = ap (λ n. n * P) second in
      omega (arith, first, value_halves v l m ll, value_halves v a c la, value_halves v b d lb)

-- the bit that falls out of a enters c
pub advanced : (v : ℕ) (a c : List Bool) → length a ≡ v → 8 ≤ v → (k mid out : Bool) (l m : List Bool) → Advance v a k l mid → Advance v c mid m out → Advance (v + v) (a ++ c) k (l ++ m) out
advanced v a c la some k mid out l m first second =
    record {
      moved =
          joined v l m _ _ _ first.moved second.moved (λ i h. enters_ext k (bit a) (bit (a ++ c)) i (λ j u. sym (early v a c la j (omega arith)))) (λ i h. across i);
      fallen = let last : v + v - 1 ≡ v + (v - 1) = omega arith in second.fallen ∙ sym (ap (bit (a ++ c)) last ∙ late v a c la (v - 1));
    }
  where
    across : (i : ℕ) → enters mid (bit c) i ≡ enters k (bit (a ++ c)) (v + i)
    across zero =
        let e : v + 0 ≡ v = omega arith in
        first.fallen ∙ sym (ap (enters k (bit (a ++ c))) e ∙ enters_last k (bit (a ++ c)) v (omega arith) ∙ early v a c la (v - 1) (omega arith))
    across (suc i) = let e : v + suc i ≡ suc (v + i) = omega arith in sym (ap (enters k (bit (a ++ c))) e ∙ late v a c la i)
