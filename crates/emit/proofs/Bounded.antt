-- How long a form's program is. Assumes nothing.
use Rattle.std.proofs.Common.{◌≡◌, ℕ, zero, suc, ◌+◌, ◌-◌, ◌*◌, ◌≤◌, Bool, true, false, cond, ◌&&◌, leb, List, [], ◌∷◌, ◌++◌, length, sym, refl, ap, ◌∙◌, suc-mul, arith, length-append}
use Rattle.std.proofs.lemmas.Bool.{leb-true}
use Rattle.form.specs.Form.{Form, Forms, quote, set, out, seq, or, star, rep, start, end, nil, cons, weight, weights}
use Rattle.theory.specs.Pattern.{Pattern, leaf, many, plus, eps, head, tail}
use Rattle.theory.specs.Passes.{stars}
use Rattle.theory.specs.Written.{classes, spelt, and_then, or_else, empty, stretch, loop, copies, up_to, pattern, in_order_of, one_of}
use Rattle.program.specs.declared.Step.{Step}
use Rattle.program.specs.declared.Step.TheVariants.{Save, Load, Or, Grow}
use Rattle.program.specs.Numbered.{leaves}
use Rattle.program.specs.Compile.{unions, unions_into, steps, into}

-- how many steps a pattern has
abbrev mutual
  pub size : Pattern → ℕ
  size (leaf c) = 1
  size (many c) = 1
  size (plus c) = 1
  size eps = 0
  size (Pattern.seq F G) = size F + size G
  size (Pattern.alt F G) = 4 + (size F + size_into G)
  size (Pattern.opt F) = 2 + size_into F
  size (Pattern.star F) = 4 + size F
  size head = 1
  size tail = 1

  pub size_into : Pattern → ℕ
  size_into (leaf c) = 2
  size_into (many c) = 2
  size_into (plus c) = 2
  size_into eps = 1
  size_into (Pattern.seq F G) = size F + size_into G
  size_into (Pattern.alt F G) = 2 + (size_into F + size_into G)
  size_into (Pattern.opt F) = 1 + size_into F
  size_into (Pattern.star F) = 5 + size F
  size_into head = 2
  size_into tail = 2

mutual
  pub steps_long : (P : Pattern) (k s a d : ℕ) → length (steps P k s a d) ≡ size P
  steps_long (leaf c) k s a d = refl
  steps_long (many c) k s a d = refl
  steps_long (plus c) k s a d = refl
  steps_long eps k s a d = refl
  steps_long (Pattern.seq F G) k s a d =
      omega (arith, length-append (steps F k s a d) (steps G (k + leaves F) (s + stars F) (a + unions F) d), steps_long F k s a d, steps_long G (k + leaves F) (s + stars F) (a + unions F) d)
  steps_long (Pattern.alt F G) k s a d =
      let G' : List Step = into G (k + leaves F) (s + stars F) (suc (a + unions F)) d a in
      omega (arith, length-append (steps F k s (suc a) (suc d)) (Save a ∷ Load d ∷ (G' ++ (Load a ∷ []))), length-append G' (Load a ∷ []), steps_long F k s (suc a) (suc d), into_long G (k + leaves F) (s + stars F) (suc (a + unions F)) d a)
  steps_long (Pattern.opt F) k s a d = omega (arith, length-append (into F k s (suc a) d a) (Load a ∷ []), into_long F k s (suc a) d a)
  steps_long (Pattern.star F) k s a d = omega (arith, length-append (steps F k (suc s) a d) (Grow s ∷ Load s ∷ []), steps_long F k (suc s) a d)
  steps_long head k s a d = refl
  steps_long tail k s a d = refl

  into_long : (P : Pattern) (k s a d r : ℕ) → length (into P k s a d r) ≡ size_into P
  into_long (leaf c) k s a d r = refl
  into_long (many c) k s a d r = refl
  into_long (plus c) k s a d r = refl
  into_long eps k s a d r = refl
  into_long (Pattern.seq F G) k s a d r =
      omega (arith, length-append (steps F k s a d) (into G (k + leaves F) (s + stars F) (a + unions F) d r), steps_long F k s a d, into_long G (k + leaves F) (s + stars F) (a + unions F) d r)
  into_long (Pattern.alt F G) k s a d r =
      omega (arith, length-append (into F k s a (suc d) r) (Load d ∷ into G (k + leaves F) (s + stars F) (a + unions_into F) d r), into_long F k s a (suc d) r, into_long G (k + leaves F) (s + stars F) (a + unions_into F) d r)
  into_long (Pattern.opt F) k s a d r = omega (arith, into_long F k s a d r)
  into_long (Pattern.star F) k s a d r = omega (arith, length-append (steps F k (suc s) a d) (Grow s ∷ Load s ∷ Or r ∷ []), steps_long F k (suc s) a d)
  into_long head k s a d r = refl
  into_long tail k s a d r = refl

-- each carry has a step
mutual
  pub leaves_few : (P : Pattern) → leaves P ≤ size P
  leaves_few (leaf c) = omega arith
  leaves_few (many c) = omega arith
  leaves_few (plus c) = omega arith
  leaves_few eps = omega arith
  leaves_few (Pattern.seq F G) = omega (arith, leaves_few F, leaves_few G)
  leaves_few (Pattern.alt F G) = omega (arith, leaves_few F, leaves_into G)
  leaves_few (Pattern.opt F) = omega (arith, leaves_into F)
  leaves_few (Pattern.star F) = omega (arith, leaves_few F)
  leaves_few head = omega arith
  leaves_few tail = omega arith

  leaves_into : (P : Pattern) → leaves P ≤ size_into P
  leaves_into (leaf c) = omega arith
  leaves_into (many c) = omega arith
  leaves_into (plus c) = omega arith
  leaves_into eps = omega arith
  leaves_into (Pattern.seq F G) = omega (arith, leaves_few F, leaves_into G)
  leaves_into (Pattern.alt F G) = omega (arith, leaves_into F, leaves_into G)
  leaves_into (Pattern.opt F) = omega (arith, leaves_into F)
  leaves_into (Pattern.star F) = omega (arith, leaves_few F)
  leaves_into head = omega arith
  leaves_into tail = omega arith

-- ---- stretching, stars and repeats

leaf_size : (b : Bool) (c : ℕ) → size (cond b (plus c) (leaf c)) ≡ 1
leaf_size true c = refl
leaf_size false c = refl

leaf_into : (b : Bool) (c : ℕ) → size_into (cond b (plus c) (leaf c)) ≡ 2
leaf_into true c = refl
leaf_into false c = refl

mutual
  stretch_size : (b e : Bool) (P : Pattern) → size (stretch b e P) ≡ size P
  stretch_size b e (leaf c) = leaf_size (b && e) c
  stretch_size b e (many c) = refl
  stretch_size b e (plus c) = refl
  stretch_size b e eps = refl
  stretch_size b e (Pattern.seq F G) = λ i. stretch_size b (e && empty G) F i + stretch_size (b && empty F) e G i
  stretch_size b e (Pattern.alt F G) = λ i. 4 + (stretch_size b e F i + stretch_into b e G i)
  stretch_size b e (Pattern.opt F) = λ i. 2 + stretch_into b e F i
  stretch_size b e (Pattern.star F) = refl
  stretch_size b e head = refl
  stretch_size b e tail = refl

  stretch_into : (b e : Bool) (P : Pattern) → size_into (stretch b e P) ≡ size_into P
  stretch_into b e (leaf c) = leaf_into (b && e) c
  stretch_into b e (many c) = refl
  stretch_into b e (plus c) = refl
  stretch_into b e eps = refl
  stretch_into b e (Pattern.seq F G) = λ i. stretch_size b (e && empty G) F i + stretch_into (b && empty F) e G i
  stretch_into b e (Pattern.alt F G) = λ i. 2 + (stretch_into b e F i + stretch_into b e G i)
  stretch_into b e (Pattern.opt F) = λ i. 1 + stretch_into b e F i
  stretch_into b e (Pattern.star F) = refl
  stretch_into b e head = refl
  stretch_into b e tail = refl

loop_size : (P : Pattern) → size (loop P) ≤ 4 + size P
loop_size (leaf c) = omega arith
loop_size (many c) = omega arith
loop_size (plus c) = omega arith
loop_size eps = omega arith
loop_size (Pattern.seq F G) = omega (arith, stretch_size true true (Pattern.seq F G))
loop_size (Pattern.alt F G) = omega (arith, stretch_size true true (Pattern.alt F G))
loop_size (Pattern.opt F) = omega (arith, stretch_size true true (Pattern.opt F))
loop_size (Pattern.star F) = omega arith
loop_size head = omega arith
loop_size tail = omega arith

loop_into : (P : Pattern) → size_into (loop P) ≤ 5 + size P
loop_into (leaf c) = omega arith
loop_into (many c) = omega arith
loop_into (plus c) = omega arith
loop_into eps = omega arith
loop_into (Pattern.seq F G) = omega (arith, stretch_size true true (Pattern.seq F G))
loop_into (Pattern.alt F G) = omega (arith, stretch_size true true (Pattern.alt F G))
loop_into (Pattern.opt F) = omega (arith, stretch_size true true (Pattern.opt F))
loop_into (Pattern.star F) = omega arith
loop_into head = omega arith
loop_into tail = omega arith

copies_size : (n : ℕ) (P : Pattern) → size (copies n P) ≡ n * size P
copies_size zero P = omega arith
copies_size (suc n) P = omega (arith, copies_size n P, suc-mul n (size P))

up_to_into : (d : ℕ) (P : Pattern) → size_into (up_to d P) ≡ 1 + (d * size P + d)
up_to_into zero P = omega arith
up_to_into (suc d) P = omega (arith, up_to_into d P, suc-mul d (size P))

up_to_size : (d : ℕ) (P : Pattern) → size (up_to d P) ≤ d * size P + 3 * d
up_to_size zero P = omega arith
up_to_size (suc d) P = omega (arith, up_to_into d P, suc-mul d (size P))

-- ---- forms

abbrev Small : Pattern → ℕ → Type 0
Small P w = (size P + 3 ≤ 4 * w) × (size_into P + 2 ≤ 4 * w)

spelt_small : (bs : List ℕ) (c : ℕ) → (size (spelt bs c) ≡ length bs) × (size_into (spelt bs c) ≡ 1 + length bs)
spelt_small [] c = (refl, refl)
spelt_small (b ∷ []) c = (refl, refl)
spelt_small (b ∷ (e ∷ bs)) c = let r = spelt_small (e ∷ bs) (suc c) in (omega (arith, r.0), omega (arith, r.1))

times : (n s w : ℕ) → s + 3 ≤ 4 * w → n * s + 3 * n ≤ 4 * (n * w)
times zero s w h = omega arith
times (suc n) s w h = omega (arith, times n s w h, suc-mul n s, suc-mul n w)

split : (l d s : ℕ) → (l + d) * s ≡ l * s + d * s
split zero d s = omega arith
split (suc l) d s = omega (arith, split l d s, suc-mul (l + d) s, suc-mul l s)

then_size : (fs : Forms) (F G : Pattern) (w : ℕ) → size F + 3 ≤ 4 * w → size G ≤ 4 * weights fs → size (and_then fs F G) ≤ 4 * (w + weights fs)
then_size nil F G w h k = omega arith
then_size (cons f fs) F G w h k = omega arith

then_into : (fs : Forms) (F G : Pattern) (w : ℕ) → Small F w → size_into G ≤ 4 * weights fs + 1 → size_into (and_then fs F G) ≤ 4 * (w + weights fs) + 1
then_into nil F G w h k = omega (arith, h.1)
then_into (cons f fs) F G w h k = omega (arith, h.0)

-- a union of no part is a leaf
abbrev slack : Forms → ℕ
slack nil = 4
slack (cons f fs) = 0

else_size : (fs : Forms) (F G : Pattern) (w : ℕ) → Small F w → size_into G + 2 ≤ 4 * weights fs + slack fs → size (or_else fs F G) ≤ 4 * (w + weights fs)
else_size nil F G w h k = omega (arith, h.0)
else_size (cons f fs) F G w h k = omega (arith, h.0)

else_into : (fs : Forms) (F G : Pattern) (w : ℕ) → Small F w → size_into G + 2 ≤ 4 * weights fs + slack fs → size_into (or_else fs F G) + 2 ≤ 4 * (w + weights fs)
else_into nil F G w h k = omega (arith, h.1)
else_into (cons f fs) F G w h k = omega (arith, h.1)

rep_small : (l m w c : ℕ) (P : Pattern) → Small P w → Small (cond (leb l m) (Pattern.seq (copies l P) (up_to (m - l) P)) (leaf c)) (1 + m * w)
rep_small l m w c P h = go (leb l m) refl
  where
    go : (b : Bool) → leb l m ≡ b → Small (cond b (Pattern.seq (copies l P) (up_to (m - l) P)) (leaf c)) (1 + m * w)
    go true e =
        let le = leb-true l m e in
        let d : ℕ = m - l in
        let t = times m (size P) w h.0 in
        let sum : l + d ≡ m = omega arith in
        let s : m * size P ≡ l * size P + d * size P = ap (λ n. n * size P) (sym sum) ∙ split l d (size P) in
        let A = copies_size l P in
        let B = up_to_size d P in
        let C = up_to_into d P in
        (omega arith, omega arith)
    go false e = (omega arith, omega arith)

mutual
  pub small : (F : Form) (c : ℕ) → Small (pattern F c) (weight F)
  small (quote bytes) c = let r = spelt_small bytes c in (omega (arith, r.0), omega (arith, r.1))
  small (set items) c = (omega arith, omega arith)
  small (out items) c = (omega arith, omega arith)
  small (seq parts) c = (omega (arith, all_size parts c), omega (arith, all_into parts c))
  small (or parts) c = (any_size parts c, any_whole parts c)
  small (star part) c = let r = small part c in (omega (arith, r.0, loop_size (pattern part c)), omega (arith, r.0, loop_into (pattern part c)))
  small (rep least most part) c = rep_small least most (weight part) c (pattern part c) (small part c)
  small start c = (omega arith, omega arith)
  small end c = (omega arith, omega arith)

  all_size : (fs : Forms) (c : ℕ) → size (in_order_of fs c) ≤ 4 * weights fs
  all_size nil c = omega arith
  all_size (cons f fs) c = then_size fs (pattern f c) (in_order_of fs (c + length (classes f))) (weight f) (small f c).0 (all_size fs (c + length (classes f)))

  all_into : (fs : Forms) (c : ℕ) → size_into (in_order_of fs c) ≤ 4 * weights fs + 1
  all_into nil c = omega arith
  all_into (cons f fs) c = then_into fs (pattern f c) (in_order_of fs (c + length (classes f))) (weight f) (small f c) (all_into fs (c + length (classes f)))

  any_into : (fs : Forms) (c : ℕ) → size_into (one_of fs c) + 2 ≤ 4 * weights fs + slack fs
  any_into nil c = omega arith
  any_into (cons f fs) c = omega (arith, else_into fs (pattern f c) (one_of fs (c + length (classes f))) (weight f) (small f c) (any_into fs (c + length (classes f))))

  any_size : (fs : Forms) (c : ℕ) → size (one_of fs c) + 3 ≤ 4 * (1 + weights fs)
  any_size nil c = omega arith
  any_size (cons f fs) c = omega (arith, else_size fs (pattern f c) (one_of fs (c + length (classes f))) (weight f) (small f c) (any_into fs (c + length (classes f))))

  any_whole : (fs : Forms) (c : ℕ) → size_into (one_of fs c) + 2 ≤ 4 * (1 + weights fs)
  any_whole nil c = omega arith
  any_whole (cons f fs) c = omega (arith, else_into fs (pattern f c) (one_of fs (c + length (classes f))) (weight f) (small f c) (any_into fs (c + length (classes f))))
