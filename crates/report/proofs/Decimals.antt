-- The laws of decimals.
use Rattle.std.proofs.Common.{◌≡◌, ℕ, zero, suc, ◌+◌, ◌-◌, ◌*◌, ◌/◌, ◌%◌, ◌^◌, ◌<◌, ◌≤◌, ltb, List, [], ◌∷◌, ◌++◌, length, get_or, sym, refl, ap, ◌∙◌, ⊎_elim, add-one, arith}
use Rattle.std.specs.Fmt as Fmt
use Rattle.report.specs.Decimals.{digits, decimal, read_on, DecimalsWrite}
use Rattle.std.proofs.lemmas.Fmt.{decimal_by_steps}
use Rattle.std.proofs.lemmas.List.{length_push}
use Rattle.std.proofs.lemmas.Grind.{common_steps}
use Rattle.std.proofs.lemmas.Bool.{cond-true, cond-false, lt-ltb, le-ltb, cases_lt}

digits_one : (most n : ℕ) → n < 10 → digits (suc most) n ≡ (48 + n) ∷ []
unfolding digits
digits_one most n h = cond-true (ltb n 10) _ _ (lt-ltb n 10 h)

digits_more : (most n : ℕ) → 10 ≤ n → digits (suc most) n ≡ digits most (n / 10) ++ ((48 + n % 10) ∷ [])
unfolding digits
digits_more most n h = cond-false (ltb n 10) _ _ (le-ltb n 10 h)

-- room for more digits changes nothing
digits_enough : (m k n : ℕ) → n < m → n < k → digits m n ≡ digits k n
digits_enough zero k n h l = absurd (omega arith)
digits_enough (suc m) zero n h l = absurd (omega arith)
digits_enough (suc m) (suc k) n h l =
    ⊎_elim (λ s. digits_one m n s ∙ sym (digits_one k n s))
    (λ b. let e = digits_enough m k (n / 10) (omega arith) (omega arith) in rw (digits_more m n b, digits_more k n b, e))
    (cases_lt n 10)

decimal_one : (n : ℕ) → n < 10 → decimal n ≡ (48 + n) ∷ []
unfolding decimal
decimal_one n h = rw add-one (digits_one n n h)

decimal_more : (n : ℕ) → 10 ≤ n → decimal n ≡ decimal (n / 10) ++ ((48 + n % 10) ∷ [])
unfolding decimal
decimal_more n h = rw (add-one n, digits_more n n h, digits_enough n (n / 10 + 1) (n / 10) (omega arith) (omega arith))

-- what holds of one digit, and lasts where one is added, holds of every decimal
module _ (P : ℕ → List ℕ → Type 0) (one : (n : ℕ) → n < 10 → P n ((48 + n) ∷ []))
    (more : (n : ℕ) (ds : List ℕ) → 10 ≤ n → P (n / 10) ds → P n (ds ++ ((48 + n % 10) ∷ []))) where
  below : (m n : ℕ) → n < m → P n (decimal n)
  below zero n h = absurd (omega arith)
  below (suc m) n h =
      ⊎_elim (λ s. rw (decimal_one n s) (one n s))
      (λ b. rw (decimal_more n b) (more n (decimal (n / 10)) b (below m (n / 10) (omega arith)))) (cases_lt n 10)

  by_tenths : (n : ℕ) → P n (decimal n)
  by_tenths n = below (n + 1) n (omega arith)

-- what std's integers are printed as
pub same_decimal : (n : ℕ) → n < 2 ^ 64 → Fmt.decimal n ≡ decimal n
same_decimal =
    decimal_by_steps (λ n ds. ds ≡ decimal n) (λ n l. sym (decimal_one n l))
    (λ n ds l e. ap (λ front. front ++ ((48 + n % 10) ∷ [])) e ∙ sym (decimal_more n l))

read_on_push : (before : ℕ) (ds : List ℕ) (d : ℕ) → read_on before (ds ++ (d ∷ [])) ≡ read_on before ds * 10 + (d - 48)
read_on_push before [] d = refl
read_on_push before (byte ∷ ds) d = read_on_push (before * 10 + (byte - 48)) ds d

-- what `Writes` says, in the form that lasts where a digit is added
record Spells (n : ℕ) (ds : List ℕ) : Type 0 where
  some : 0 < length ds
  digit : (k : ℕ) → k < length ds → (48 ≤ get_or ds k 0) × (get_or ds k 0 < 58)
  first : 0 < n → 48 < get_or ds 0 0
  long : 1 < length ds → 0 < n
  reads : read_on 0 ds ≡ n

spells_one : (n : ℕ) → n < 10 → Spells n ((48 + n) ∷ [])
spells_one n h =
    record { some = omega arith; digit = λ k l. grind (arith, common_steps); first = λ p. omega arith; long = λ l. absurd (omega arith); reads = omega arith }

spells_more : (n : ℕ) (ds : List ℕ) → 10 ≤ n → Spells (n / 10) ds → Spells n (ds ++ ((48 + n % 10) ∷ []))
spells_more n ds h was = record {
  some = omega (arith, length_push ds (48 + n % 10));
  digit = λ k l. grind (arith, common_steps, was.digit);
  first = λ _. grind (arith, common_steps, was.first, was.some);
  long = λ _. omega arith;
  reads = omega (arith, read_on_push 0 ds (48 + n % 10), was.reads);
}

pub decimals_write : DecimalsWrite
decimals_write n =
    let all = by_tenths Spells spells_one spells_more n in
    record { some = all.some; digit = all.digit; leading = λ l. all.first (all.long l); reads = all.reads }
