-- The steps of patterns, from those of their parts. Assumes nothing.
use Rattle.std.proofs.Common.{◌≡◌, ℕ, suc, ◌+◌, ◌≤◌, Bool, true, false, cond, List, [], ◌∷◌, ◌++◌, length, Some, None, Option, sym, refl, ap, ◌∙◌, subst, append_assoc, append-nil, arith, length-append}
use Rattle.theory.specs.Pattern.{Pattern, leaf, plus, eps, seq, alt, opt, star}
use Rattle.theory.specs.Passes.{stars}
use Rattle.program.specs.declared.Step.{Step}
use Rattle.program.specs.declared.Step.TheVariants.{Take, More, Save, Load, Or, Grow}
use Rattle.program.specs.Numbered.{leaves}
use Rattle.program.specs.Compile.{classes_at, unions, unions_into, steps, into}
use Rattle.emit.specs.Limit.{longest}
use Rattle.emit.specs.Coding.{steps_of, top, Went, Does, code_of, own, Writes}
use Rattle.emit.specs.declared.code.Code.{Code}

pub long : {x y : Code} {L : List Step} {k s a : ℕ} → Went x y L k s a → length (steps_of y) ≡ length (steps_of x) + length L
long {x} {y} {L} w = ap length w.written ∙ length-append (steps_of x) L

pub then : {x y z : Code} {L M : List Step} {k s a k' s' a' : ℕ} → Went x y L k s a → Went y z M k' s' a' → Went x z (L ++ M) (k + k') (s + s') (a + a')
then {x} {y} {z} {L} {M} v w =
    record {
      written = w.written ∙ ap (λ l. l ++ M) v.written ∙ append_assoc (steps_of x) L M;
      carries = omega arith;
      rows = omega arith;
      gathering = omega arith;
    }

pub counts : {x y : Code} {L : List Step} {k s a k' s' a' : ℕ} → Went x y L k s a → k ≡ k' → s ≡ s' → a ≡ a' → Went x y L k' s' a'
counts w p q r = record { written = w.written; carries = omega arith; rows = omega arith; gathering = omega arith }

-- what a part writes, by the numbers that come next
pub writes_at : (m : Option ℕ) (d e : ℕ) (P : Pattern) (x y : Code) (k s a : ℕ) → Writes m e P x y → e ≡ d → x.carry ≡ k → x.star ≡ s → x.gather ≡ a
    → length (steps_of x) + length (code_of m P k s a d) ≤ longest → d + length (code_of m P k s a d) ≤ top
    → k + leaves P ≤ top → s + stars P ≤ top → a + own m P ≤ top
    → Went x y (code_of m P k s a d) (leaves P) (stars P) (own m P)
writes_at m d e P x y k s a w p0 p1 p2 p3 room deep hk hs ha =
    let same : code_of m P x.carry x.star x.gather e ≡ code_of m P k s a d = λ i. code_of m P (p1 i) (p2 i) (p3 i) (p0 i) in
    let l : length (code_of m P x.carry x.star x.gather e) ≡ length (code_of m P k s a d) = ap length same in
    subst (λ L. Went x y L (leaves P) (stars P) (own m P)) same (w (omega arith) (omega arith) (omega arith) (omega arith) (omega arith))

-- one part and then another, neither of which keeps marks
pub both : {x y z : Code} {L M : List Step} {k s a k' s' a' : ℕ} → Does x y L k s a → Does y z M k' s' a' → Does x z (L ++ M) (k + k') (s + s') (a + a')
both {x} {y} {z} {L} {M} {k} {s} {a} {k'} {s'} {a'} p q room hk hs ha =
    let l = length-append L M in
    let v = p (omega arith) (omega arith) (omega arith) (omega arith) in
    let n = long v in
    then v (q (omega arith) (omega arith) (omega arith) (omega arith))

-- ---- numbers that are taken

module _ (x y : Code) (written : steps_of y ≡ steps_of x) where
  pub carry_taken : (x.carry + 1 ≤ top → y.carry ≡ x.carry + 1) → y.star ≡ x.star → y.gather ≡ x.gather → Does x y [] 1 0 0
  carry_taken k s a room hk hs ha = record { written = written ∙ sym (append-nil (steps_of x)); carries = k hk; rows = omega arith; gathering = omega arith }

  pub star_taken : (x.star + 1 ≤ top → y.star ≡ x.star + 1) → y.carry ≡ x.carry → y.gather ≡ x.gather → Does x y [] 0 1 0
  star_taken s k a room hk hs ha = record { written = written ∙ sym (append-nil (steps_of x)); carries = omega arith; rows = s hs; gathering = omega arith }

  pub gather_taken : (x.gather + 1 ≤ top → y.gather ≡ x.gather + 1) → y.carry ≡ x.carry → y.star ≡ x.star → Does x y [] 0 0 1
  gather_taken a k s room hk hs ha = record { written = written ∙ sym (append-nil (steps_of x)); carries = omega arith; rows = omega arith; gathering = a ha }

-- ---- patterns of one step

module _ (d : ℕ) (P : Pattern) (st : Step) (x x₁ x₂ y : Code) where
  -- a step with a carry, and then the marks stay, or are gathered
  pub leaf_writes : (m : Option ℕ) → leaves P ≡ 1 → stars P ≡ 0 → unions P ≡ 0 → unions_into P ≡ 0 → steps P x.carry x.star x.gather d ≡ st ∷ [] → ((r : ℕ) → into P x.carry x.star x.gather d r ≡ st ∷ Or r ∷ [])
      → Does x x₁ [] 1 0 0 → Does x₁ x₂ (st ∷ []) 0 0 0 → Writes m d eps x₂ y → Writes m d P x y
  leaf_writes None lk ls lu li e f p q w deep room hk hs ha =
      let l = ap length e in
      let w₁ = p (omega arith) (omega arith) (omega arith) (omega arith) in
      let l₁ = long w₁ in
      let w₂ = q (omega arith) (omega arith) (omega arith) (omega arith) in
      let l₂ = long w₂ in
      let w₃ = w (omega arith) (omega arith) (omega arith) (omega arith) (omega arith) in
      subst (λ L. Went x y L (leaves P) (stars P) (unions P)) (sym e) (counts (then w₁ (then w₂ w₃)) (omega arith) (omega arith) (omega arith))
  leaf_writes (Some r) lk ls lu li e f p q w deep room hk hs ha =
      let l = ap length (f r) in
      let w₁ = p (omega arith) (omega arith) (omega arith) (omega arith) in
      let l₁ = long w₁ in
      let w₂ = q (omega arith) (omega arith) (omega arith) (omega arith) in
      let l₂ = long w₂ in
      let w₃ = w (omega arith) (omega arith) (omega arith) (omega arith) (omega arith) in
      subst (λ L. Went x y L (leaves P) (stars P) (unions_into P)) (sym (f r)) (counts (then w₁ (then w₂ w₃)) (omega arith) (omega arith) (omega arith))

-- ---- in order

pub seq_writes : (m : Option ℕ) (d : ℕ) (F G : Pattern) (x y z : Code) → Writes None d F x y → Writes m d G y z → Writes m d (seq F G) x z
seq_writes None d F G x y z v w deep room hk hs ha =
    let l = length-append (steps F x.carry x.star x.gather d) (steps G (x.carry + leaves F) (x.star + stars F) (x.gather + unions F) d) in
    let w₁ = v (omega arith) (omega arith) (omega arith) (omega arith) (omega arith) in
    let l₁ = long w₁ in
    let w₂ = writes_at None d d G y z (x.carry + leaves F) (x.star + stars F) (x.gather + unions F) w refl w₁.carries w₁.rows w₁.gathering (omega arith) (omega arith) (omega arith) (omega arith) (omega arith) in
    then w₁ w₂
seq_writes (Some r) d F G x y z v w deep room hk hs ha =
    let l = length-append (steps F x.carry x.star x.gather d) (into G (x.carry + leaves F) (x.star + stars F) (x.gather + unions F) d r) in
    let w₁ = v (omega arith) (omega arith) (omega arith) (omega arith) (omega arith) in
    let l₁ = long w₁ in
    let w₂ = writes_at (Some r) d d G y z (x.carry + leaves F) (x.star + stars F) (x.gather + unions F) w refl w₁.carries w₁.rows w₁.gathering (omega arith) (omega arith) (omega arith) (omega arith) (omega arith) in
    then w₁ w₂

-- the steps that take bytes of a class
module _ (c k n cls : ℕ) (at : cls ≡ classes_at + c) (with : n ≡ k) where
  step_is : (b : Bool) → cond b (More cls n) (Take cls n) ≡ cond b (More (classes_at + c) k) (Take (classes_at + c) k)
  step_is b = λ i. cond b (More (at i) (with i)) (Take (at i) (with i))

  pub take_steps : (b : Bool) (st : Step) (s a d : ℕ) → st ≡ cond b (More cls n) (Take cls n) → steps (cond b (plus c) (leaf c)) k s a d ≡ st ∷ []
  take_steps true st s a d e = ap (λ t. t ∷ []) (sym (e ∙ step_is true))
  take_steps false st s a d e = ap (λ t. t ∷ []) (sym (e ∙ step_is false))

  pub take-into : (b : Bool) (st : Step) (s a d r : ℕ) → st ≡ cond b (More cls n) (Take cls n) → into (cond b (plus c) (leaf c)) k s a d r ≡ st ∷ Or r ∷ []
  take-into true st s a d r e = ap (λ t. t ∷ Or r ∷ []) (sym (e ∙ step_is true))
  take-into false st s a d r e = ap (λ t. t ∷ Or r ∷ []) (sym (e ∙ step_is false))

pub take-leaves : (b : Bool) (c : ℕ) → leaves (cond b (plus c) (leaf c)) ≡ 1
take-leaves true c = refl
take-leaves false c = refl

pub take-stars : (b : Bool) (c : ℕ) → stars (cond b (plus c) (leaf c)) ≡ 0
take-stars true c = refl
take-stars false c = refl

pub take-unions : (b : Bool) (c : ℕ) → unions (cond b (plus c) (leaf c)) ≡ 0
take-unions true c = refl
take-unions false c = refl

pub take_own : (b : Bool) (c : ℕ) → unions_into (cond b (plus c) (leaf c)) ≡ 0
take_own true c = refl
take_own false c = refl

-- ---- unions

-- behind a gathering row of its own
pub alt_on : (d e q : ℕ) (F G : Pattern) (x x₂ x₃ x₅ x₆ y : Code) → q ≡ x.gather → (d + 1 ≤ top → e ≡ d + 1)
    → Does x x₂ (Save d ∷ []) 0 0 1 → Writes None e F x₂ x₃ → Does x₃ x₅ (Save q ∷ Load d ∷ []) 0 0 0
    → Writes (Some q) d G x₅ x₆ → Does x₆ y (Load q ∷ []) 0 0 0 → Writes None d (alt F G) x y
alt_on d e q F G x x₂ x₃ x₅ x₆ y here under p₂ p₃ p₅ p₆ p₇ deep room hk hs ha =
    let k : ℕ = x.carry in
    let s : ℕ = x.star in
    let a : ℕ = x.gather in
    let F' : List Step = steps F k s (suc a) (suc d) in
    let G' : List Step = into G (k + leaves F) (s + stars F) (suc (a + unions F)) d a in
    let l₀ = length-append F' (Save a ∷ Load d ∷ (G' ++ (Load a ∷ []))) in
    let m₀ = length-append G' (Load a ∷ []) in
    let w₂ = p₂ (omega arith) (omega arith) (omega arith) (omega arith) in
    let l₂ = long w₂ in
    let w₃ = writes_at None (suc d) e F x₂ x₃ k s (suc a) p₃ (under (omega arith) ∙ omega arith) (omega arith) (omega arith) (omega arith) (omega arith) (omega arith) (omega arith) (omega arith) (omega arith) in
    let l₃ = long w₃ in
    let w₅ = p₅ (omega arith) (omega arith) (omega arith) (omega arith) in
    let l₅ = long w₅ in
    let v₆ : Writes (Some a) d G x₅ x₆ = subst (λ r. Writes (Some r) d G x₅ x₆) here p₆ in
    let w₆ = writes_at (Some a) d d G x₅ x₆ (k + leaves F) (s + stars F) (suc (a + unions F)) v₆ refl (omega arith) (omega arith) (omega arith) (omega arith) (omega arith) (omega arith) (omega arith) (omega arith) in
    let l₆ = long w₆ in
    let w₇ = p₇ (omega arith) (omega arith) (omega arith) (omega arith) in
    let all : Went x y (Save d ∷ (F' ++ (Save q ∷ Load d ∷ (G' ++ (Load q ∷ []))))) (leaves (alt F G)) (stars (alt F G)) (unions (alt F G)) =
    counts (then w₂ (then w₃ (then w₅ (then w₆ w₇)))) (omega arith) (omega arith) (omega arith) in
    subst (λ r. Went x y (Save d ∷ (F' ++ (Save r ∷ Load d ∷ (G' ++ (Load r ∷ []))))) (leaves (alt F G)) (stars (alt F G)) (unions (alt F G))) here all

-- into a row that gathers already
pub alt_into : (d e r : ℕ) (F G : Pattern) (x x₁ x₂ x₃ y : Code) → (d + 1 ≤ top → e ≡ d + 1)
    → Does x x₁ (Save d ∷ []) 0 0 0 → Writes (Some r) e F x₁ x₂ → Does x₂ x₃ (Load d ∷ []) 0 0 0 → Writes (Some r) d G x₃ y → Writes (Some r) d (alt F G) x y
alt_into d e r F G x x₁ x₂ x₃ y under p₁ p₂ p₃ p₄ deep room hk hs ha =
    let k : ℕ = x.carry in
    let s : ℕ = x.star in
    let a : ℕ = x.gather in
    let F' : List Step = into F k s a (suc d) r in
    let G' : List Step = into G (k + leaves F) (s + stars F) (a + unions_into F) d r in
    let l₀ = length-append F' (Load d ∷ G') in
    let w₁ = p₁ (omega arith) (omega arith) (omega arith) (omega arith) in
    let l₁ = long w₁ in
    let w₂ = writes_at (Some r) (suc d) e F x₁ x₂ k s a p₂ (under (omega arith) ∙ omega arith) (omega arith) (omega arith) (omega arith) (omega arith) (omega arith) (omega arith) (omega arith) (omega arith) in
    let l₂ = long w₂ in
    let w₃ = p₃ (omega arith) (omega arith) (omega arith) (omega arith) in
    let l₃ = long w₃ in
    let w₄ = writes_at (Some r) d d G x₃ y (k + leaves F) (s + stars F) (a + unions_into F) p₄ refl (omega arith) (omega arith) (omega arith) (omega arith) (omega arith) (omega arith) (omega arith) (omega arith) in
    counts (then w₁ (then w₂ (then w₃ w₄))) (omega arith) (omega arith) (omega arith)

pub opt_on : (d q : ℕ) (F : Pattern) (x x₂ x₃ y : Code) → q ≡ x.gather
    → Does x x₂ (Save q ∷ []) 0 0 1 → Writes (Some q) d F x₂ x₃ → Does x₃ y (Load q ∷ []) 0 0 0 → Writes None d (opt F) x y
opt_on d q F x x₂ x₃ y here p₂ p₃ p₄ deep room hk hs ha =
    let k : ℕ = x.carry in
    let s : ℕ = x.star in
    let a : ℕ = x.gather in
    let F' : List Step = into F k s (suc a) d a in
    let l₀ = length-append F' (Load a ∷ []) in
    let w₂ = p₂ (omega arith) (omega arith) (omega arith) (omega arith) in
    let l₂ = long w₂ in
    let v₃ : Writes (Some a) d F x₂ x₃ = subst (λ r. Writes (Some r) d F x₂ x₃) here p₃ in
    let w₃ = writes_at (Some a) d d F x₂ x₃ k s (suc a) v₃ refl (omega arith) (omega arith) (omega arith) (omega arith) (omega arith) (omega arith) (omega arith) (omega arith) in
    let l₃ = long w₃ in
    let w₄ = p₄ (omega arith) (omega arith) (omega arith) (omega arith) in
    let all : Went x y (Save q ∷ (F' ++ (Load q ∷ []))) (leaves (opt F)) (stars (opt F)) (unions (opt F)) =
    counts (then w₂ (then w₃ w₄)) (omega arith) (omega arith) (omega arith) in
    subst (λ r. Went x y (Save r ∷ (F' ++ (Load r ∷ []))) (leaves (opt F)) (stars (opt F)) (unions (opt F))) here all

pub opt_into : (d r : ℕ) (F : Pattern) (x x₁ y : Code) → Does x x₁ (Or r ∷ []) 0 0 0 → Writes (Some r) d F x₁ y → Writes (Some r) d (opt F) x y
opt_into d r F x x₁ y p₁ p₂ deep room hk hs ha =
    let w₁ = p₁ (omega arith) (omega arith) (omega arith) (omega arith) in
    let l₁ = long w₁ in
    let w₂ = writes_at (Some r) d d F x₁ y x.carry x.star x.gather p₂ refl (omega arith) (omega arith) (omega arith) (omega arith) (omega arith) (omega arith) (omega arith) (omega arith) in
    counts (then w₁ w₂) (omega arith) (omega arith) (omega arith)

-- ---- stars

-- the marks stay, or are gathered, and none is kept
pub stays : (m : Option ℕ) (x y : Code) → Writes m 0 eps x y → Does x y (code_of m eps 0 0 0 0) 0 0 0
stays None x y w = w (omega arith)
stays (Some r) x y w = w (omega arith)

module _ (d q : ℕ) (F : Pattern) (x x₃ x₄ y : Code) (here : q ≡ x.star) where
  core : (E : List Step) → Does x x₃ (Or q ∷ Load q ∷ []) 0 1 0 → Writes None d F x₃ x₄ → Does x₄ y (Grow q ∷ Load q ∷ E) 0 0 0
      → d + (length (steps F x.carry (suc x.star) x.gather d) + (length E + 4)) ≤ top
      → length (steps_of x) + (length (steps F x.carry (suc x.star) x.gather d) + (length E + 4)) ≤ longest
      → x.carry + leaves F ≤ top → x.star + suc (stars F) ≤ top → x.gather + unions F ≤ top
      → Went x y (Or x.star ∷ Load x.star ∷ (steps F x.carry (suc x.star) x.gather d ++ (Grow x.star ∷ Load x.star ∷ E))) (leaves F) (suc (stars F)) (unions F)
  core E p₃ p₄ p₇ deep room hk hs ha =
      let k : ℕ = x.carry in
      let s : ℕ = x.star in
      let a : ℕ = x.gather in
      let F' : List Step = steps F k (suc s) a d in
      let w₃ = p₃ (omega arith) (omega arith) (omega arith) (omega arith) in
      let l₃ = long w₃ in
      let w₄ = writes_at None d d F x₃ x₄ k (suc s) a p₄ refl (omega arith) (omega arith) (omega arith) (omega arith) (omega arith) (omega arith) (omega arith) (omega arith) in
      let l₄ = long w₄ in
      let w₇ = p₇ (omega arith) (omega arith) (omega arith) (omega arith) in
      let all : Went x y (Or q ∷ Load q ∷ (F' ++ (Grow q ∷ Load q ∷ E))) (leaves F) (suc (stars F)) (unions F) =
      counts (then w₃ (then w₄ w₇)) (omega arith) (omega arith) (omega arith) in
      subst (λ r. Went x y (Or r ∷ Load r ∷ (F' ++ (Grow r ∷ Load r ∷ E))) (leaves F) (suc (stars F)) (unions F)) here all

  pub star_writes : (m : Option ℕ) → Does x x₃ (Or q ∷ Load q ∷ []) 0 1 0 → Writes None d F x₃ x₄
      → Does x₄ y (Grow q ∷ Load q ∷ code_of m eps 0 0 0 0) 0 0 0 → Writes m d (star F) x y
  star_writes None p₃ p₄ p₇ deep room hk hs ha =
      let l = length-append (steps F x.carry (suc x.star) x.gather d) (Grow x.star ∷ Load x.star ∷ []) in
      core [] p₃ p₄ p₇ (omega arith) (omega arith) hk hs ha
  star_writes (Some t) p₃ p₄ p₇ deep room hk hs ha =
      let l = length-append (steps F x.carry (suc x.star) x.gather d) (Grow x.star ∷ Load x.star ∷ Or t ∷ []) in
      core (Or t ∷ []) p₃ p₄ p₇ (omega arith) (omega arith) hk hs ha
