-- The bytes of the full blocks of w places. Assumes nothing.
use Rattle.std.proofs.Common.{◌≡◌, ℕ, zero, suc, ◌+◌, ◌-◌, ◌*◌, ◌/◌, ◌%◌, ◌<◌, ◌≤◌, cond, List, [], ◌∷◌, ◌++◌, length, take, drop, sym, ap, ◌∙◌, subst, append_assoc, mod-eq_of_lt, mul-le-mul_left, div-add-mod', le-div_iff_mul-le, zero-add, arith, length-append, length-drop, take-append-drop, length-take-le, take-add}
use native.Mathlib.Nat.{mod-add-mod, div-add-mod, mul-mod_right, mod-le, mod-zero}
use lib.Seq.{take-nil, take-length, take-append_seam, take-append-le}
use Rattle.form.specs.Meaning.{feed}
use Rattle.form.specs.Positions.{opens, tape, closed}
use Rattle.history.specs.Calls.{Open}
use Rattle.history.specs.Rules.{matched}

-- how many of n bytes fill blocks
abbrev pub filled : ℕ → ℕ → ℕ
filled w n = n - n % w

-- the bytes that fill no block yet
abbrev pub partial : ℕ → List ℕ → List ℕ
partial w bytes = drop (filled w (length bytes)) bytes

filled_blocks : (w n : ℕ) → filled w n ≡ w * (n / w)
filled_blocks w n = let e = div-add-mod n w in omega arith

filled_grow : (w n m : ℕ) → n ≤ m → filled w n ≤ filled w m
filled_grow zero n m l = let a = mod-zero n in omega arith
filled_grow (suc w) n m l =
    let a = filled_blocks (suc w) n in
    let b = filled_blocks (suc w) m in
    let e = div-add-mod' n (suc w) in
    let d : n / suc w ≤ m / suc w = (le-div_iff_mul-le {k = suc w} (omega arith)).1 (omega arith) in
    let c = mul-le-mul_left (suc w) d in
    omega arith

-- the matched bytes and the partial block are all the bytes
pub matched_partial : (w : ℕ) (bytes : List ℕ) → matched w Open bytes ++ partial w bytes ≡ bytes
matched_partial w bytes = take-append-drop (filled w (length bytes)) bytes

pub length-matched : (w : ℕ) (bytes : List ℕ) → length (matched w Open bytes) ≡ filled w (length bytes)
length-matched w bytes = length-take-le (filled w (length bytes)) bytes (omega arith)

pub length_partial : (w : ℕ) (bytes : List ℕ) → length (partial w bytes) ≡ length bytes % w
length_partial w bytes =
    let a = length-drop (filled w (length bytes)) bytes in
    let b = mod-le (length bytes) w in
    omega arith

-- they are full blocks
pub matched_blocks : (w : ℕ) (bytes : List ℕ) → length (matched w Open bytes) % w ≡ 0
matched_blocks w bytes =
    ap (λ n. n % w) (length-matched w bytes ∙ filled_blocks w (length bytes)) ∙ mul-mod_right w (length bytes / w)

-- full blocks, and behind them less than a block
pub behind_blocks : (w : ℕ) (m g : List ℕ) → length m % w ≡ 0 → length g < w → length (m ++ g) % w ≡ length g
behind_blocks w m g z l =
    ap (λ n. n % w) (length-append m g) ∙ sym (mod-add-mod (length m) w (length g)) ∙ ap (λ n. (n + length g) % w) z
    ∙ ap (λ n. n % w) (zero-add (length g)) ∙ mod-eq_of_lt l

pub matched_step :
    (w : ℕ) (bytes m g : List ℕ) → bytes ≡ m ++ g → length m % w ≡ 0 → length g < w → matched w Open bytes ≡ m
matched_step w bytes m g e z l =
    subst (λ x. matched w Open x ≡ m) (sym e) (subst (λ k. take k (m ++ g) ≡ m) (sym here) (take-append_seam m g))
  where
    here : filled w (length (m ++ g)) ≡ length m
    here = let a = behind_blocks w m g z l in let b = length-append m g in omega arith

pub matched_none : (w : ℕ) → matched w Open [] ≡ []
matched_none w = take-nil (filled w 0)

-- where more bytes follow, the matched bytes begin with those matched before
pub matched_more :
    (w : ℕ) (bytes more : List ℕ) → (later : List ℕ) × (matched w Open (bytes ++ more) ≡ matched w Open bytes ++ later)
matched_more w bytes more = (take (b - a) (drop a all), step)
  where
    all : List ℕ
    all = bytes ++ more

    a : ℕ
    a = filled w (length bytes)

    b : ℕ
    b = filled w (length all)

    under : a ≤ b
    under =
        let n = length-append bytes more in
        filled_grow w (length bytes) (length all) (omega arith)

    step : take b all ≡ take a bytes ++ take (b - a) (drop a all)
    step =
        let u = under in
        let s : b ≡ a + (b - a) = omega arith in
        let i : a ≤ length bytes = omega arith in
        ap (λ n. take n all) s ∙ take-add a (b - a) all
        ∙ ap (λ (x : List ℕ). x ++ take (b - a) (drop a all)) (take-append-le a bytes more i)

-- and so do the closed bytes
pub matched_closed : (w : ℕ) (bytes : List ℕ) → (later : List ℕ) × (closed bytes ≡ matched w Open bytes ++ later)
matched_closed w bytes =
    let x : List ℕ = cond (opens (tape bytes) (length bytes)) [] (feed ∷ []) in (
      partial w bytes ++ x,
      ap (λ (l : List ℕ). l ++ x) (sym (matched_partial w bytes)) ∙ append_assoc (matched w Open bytes) (partial w bytes) x,
    )

-- full blocks alone
pub matched_full : (w : ℕ) (bytes : List ℕ) → length bytes % w ≡ 0 → matched w Open bytes ≡ bytes
matched_full w bytes z =
    let n : filled w (length bytes) ≡ length bytes = omega arith in subst (λ k. take k bytes ≡ bytes) (sym n) (take-length bytes)
