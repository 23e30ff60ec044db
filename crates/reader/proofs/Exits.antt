-- The exits of a `?`. Assumes nothing.
use Rattle.std.proofs.Common.{◌≡◌, ℕ, Option, MatchOption, Some, None, Ok, Err, IsErrAnd, Result, MatchResult, refl, arith}
use Rattle.std.specs.Option.{ok_or}
use Rattle.std.proofs.lemmas.Option.{MatchOption-at_none, MatchOption-at_some}
use Rattle.std.proofs.lemmas.Result.{err_from_is_err_and}
use Rattle.reader.specs.declared.fault.FormFault.{FormFault}

-- with the fault e
pub exits : {T : Type 0} (r : Result T FormFault) (P : T → Type 0) (Q : FormFault → Type 0) (e : FormFault) → IsErrAnd r (λ y. y ≡ e) → Q e → MatchResult r P Q
exits r P Q e h b = let p = err_from_is_err_and r h in rw (p.1, p.2) b

-- of `o.ok_or(f)?`: with the fault f, where nothing was there
pub lacks : {A : Type 0} (o : Option A) (f e : FormFault) {q : Result A FormFault} → q ≡ ok_or o f → q ≡ Err e → (o ≡ None) × (e ≡ f)
lacks None f e p w = (refl, cc)
lacks (Some x) f e p w = absurd (let z : ◌≡◌ {A = ℕ} 0 1 = cc in omega arith)

-- and with none
pub has : {A : Type 0} (o : Option A) (f : FormFault) (x : A) {q : Result A FormFault} → q ≡ ok_or o f → q ≡ Ok x → o ≡ Some x
has None f x p w = absurd (let z : ◌≡◌ {A = ℕ} 0 1 = cc in omega arith)
has (Some y) f x p w = cc

-- the same with what was said of the option
pub missed : {A : Type 0} (o : Option A) (f e : FormFault) (P : Type 0) (Q : A → Type 0) {q : Result A FormFault} → q ≡ ok_or o f → q ≡ Err e → MatchOption o P Q → P × (e ≡ f)
missed o f e P Q p w m = let n = lacks o f e p w in (MatchOption-at_none P Q n.0 m, n.1)

pub told : {A : Type 0} (o : Option A) (f : FormFault) (x : A) (P : Type 0) (Q : A → Type 0) {q : Result A FormFault} → q ≡ ok_or o f → q ≡ Ok x → MatchOption o P Q → Q x
told o f x P Q p w m = MatchOption-at_some P Q x (has o f x p w) m
