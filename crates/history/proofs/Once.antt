-- No call has two right answers. Assumes nothing.
use Rattle.std.proofs.Common.{◌≡◌, ℕ, ◌<◌, ◌≤◌, ◌⊎◌, List, length, Some, None, Option, sym, refl, ap, ◌∙◌, subst, inl, inr, arith}
use native.Mathlib.Decide.{dec_lt}
use Rattle.form.specs.Form as form
use Rattle.form.specs.Form.{Form}
use Rattle.form.specs.Lines.{Place}
use Rattle.grammar.specs.Verdicts.{Verdict, accepted, too_long, no_token, unexpected, bad_number, too_deep, Settles}
use Rattle.grammar.proofs.Decided.{one_verdict}
use Rattle.reader.specs.declared.fault.FormFault.TheVariants as fault
use Rattle.limits.specs.Limits.{heaviest, widest_kind}
use Rattle.compiler.specs.Faults.{Why, Reads, refusal_of, Refused}
use Rattle.compiler.specs.declared.fault.ProgramFault.{ProgramFault}
use Rattle.compiler.specs.declared.fault.ProgramFault.TheVariants.{Unread, TooHeavy}
use Rattle.refusal.specs.declared.Refusal.{Refusal}
use Rattle.refusal.specs.declared.Refusal.TheVariants as refusal
use Rattle.history.specs.Calls.{Asked, load, rewind, feed, draw, close, taken, weight, waiting, Told, refused, done, took, found, none, count, shown, History, State, Empty, Open, Closed, state_of, taken_of}
use Rattle.history.specs.Rules.{RightOnce, Stands, Stops, some, rewind_refusal, feed_refusal, close_refusal, By, Loads, Feeds, weighs, Answers, Right}
use Rattle.history.proofs.Standing.{open_loaded, closed_loaded, stands_unique, stands_empty}

-- what a verdict is called outside, where the text is not taken
refusal_as : Verdict → Refusal
refusal_as (accepted F) = refusal.TooHeavy
refusal_as too_long = refusal.TextTooLong
refusal_as (no_token s) = refusal.NoToken s
refusal_as (unexpected s) = refusal.UnexpectedToken s
refusal_as (bad_number s) = refusal.BadNumber s
refusal_as (too_deep s) = refusal.TooDeep s

-- the verdict of a text that is refused
record Judged (x : List ℕ) (r : Refusal) : Type 0 where
  said : Verdict
  settles : Settles x said
  called : r ≡ refusal_as said
  heavy : (F : Form) → said ≡ accepted F → heaviest < form.weight F

judged : (x : List ℕ) (f : ProgramFault) → Why f x → Judged x (refusal_of f)
unfolding refusal_as
judged x (Unread fault.TooLong) y =
    record { said = too_long; settles = y; called = refl; heavy = λ F e. let z : ◌≡◌ {A = ℕ} 0 1 = cc in absurd (omega arith) }
judged x (Unread (fault.NoToken t)) y =
    record { said = no_token t.at; settles = y; called = refl; heavy = λ F e. let z : ◌≡◌ {A = ℕ} 0 1 = cc in absurd (omega arith) }
judged x (Unread (fault.Unexpected at)) y =
    record { said = unexpected at; settles = y; called = refl; heavy = λ F e. let z : ◌≡◌ {A = ℕ} 0 1 = cc in absurd (omega arith) }
judged x (Unread (fault.BadNumber at)) y =
    record { said = bad_number at; settles = y; called = refl; heavy = λ F e. let z : ◌≡◌ {A = ℕ} 0 1 = cc in absurd (omega arith) }
judged x (Unread (fault.TooDeep at)) y =
    record { said = too_deep at; settles = y; called = refl; heavy = λ F e. let z : ◌≡◌ {A = ℕ} 0 1 = cc in absurd (omega arith) }
judged x TooHeavy y =
    record {
      said = accepted y.0;
      settles = y.1;
      called = refl;
      heavy = λ F e. let s : y.0 ≡ F = cc in subst (λ f. heaviest < form.weight f) s y.2;
    }

refused_judged : (x : List ℕ) (r : Refusal) → Refused x r → Judged x r
refused_judged x r k = subst (Judged x) (sym k.called) (judged x k.fault k.why)

-- a text is refused for one reason
pub refused_once : (x : List ℕ) (r q : Refusal) → Refused x r → Refused x q → r ≡ q
refused_once x r q a b =
    let j = refused_judged x r a in
    let k = refused_judged x q b in
    j.called ∙ ap refusal_as (one_verdict x j.said k.said j.settles k.settles) ∙ sym k.called

-- and then not taken
pub refused_never : (x : List ℕ) (r : Refusal) (F : Form) → Refused x r → Reads x F → ⊥
refused_never x r F a b =
    let j = refused_judged x r a in
    let l = j.heavy F (one_verdict x j.said (accepted F) j.settles b.0) in
    omega (arith, l, b.1)

-- why a load is refused
abbrev Denied : ℕ → List ℕ → Refusal → Type 0
Denied w text r = ((widest_kind < w) × (r ≡ refusal.KindTooWide)) ⊎ ((w ≤ widest_kind) × Refused text r)

denied_once : (w : ℕ) (text : List ℕ) (r q : Refusal) → Denied w text r → Denied w text q → r ≡ q
denied_once w text r q (inl a) (inl b) = a.1 ∙ sym b.1
denied_once w text r q (inl a) (inr b) = absurd (omega arith)
denied_once w text r q (inr a) (inl b) = absurd (omega arith)
denied_once w text r q (inr a) (inr b) = refused_once text r q a.1 b.1

denied_never : (w : ℕ) (text : List ℕ) (r : Refusal) → Denied w text r → Loads w text done → ⊥
denied_never w text r (inl a) b = omega (arith, b.0)
denied_never w text r (inr a) b = refused_never text r b.1.0 a.1 b.1.1

loads_cases : (w : ℕ) (text : List ℕ) (t : Told) → Loads w text t → ((r : Refusal) × (t ≡ refused r) × Denied w text r) ⊎ ((t ≡ done) × Loads w text done)
loads_cases w text (refused r) k = inl (r, refl, k)
loads_cases w text done k = inr (refl, k)
loads_cases w text (took n) k = absurd k
loads_cases w text (found e) k = absurd k
loads_cases w text none k = absurd k
loads_cases w text (count n) k = absurd k
loads_cases w text (shown row) k = absurd k

loads_once : (w : ℕ) (text : List ℕ) (t u : Told) → Loads w text t → Loads w text u → t ≡ u
loads_once w text t u a b = go (loads_cases w text t a) (loads_cases w text u b)
  where
    go :
        ((r : Refusal) × (t ≡ refused r) × Denied w text r) ⊎ ((t ≡ done) × Loads w text done) →
        ((r : Refusal) × (u ≡ refused r) × Denied w text r) ⊎ ((u ≡ done) × Loads w text done) →
        t ≡ u
    go (inl x) (inl y) = x.1 ∙ ap refused (denied_once w text x.0 y.0 x.2 y.2) ∙ sym y.1
    go (inl x) (inr y) = absurd (denied_never w text x.0 x.2 y.1)
    go (inr x) (inl y) = absurd (denied_never w text y.0 y.2 x.1)
    go (inr x) (inr y) = x.0 ∙ sym y.0

pub stops_once : (w : ℕ) (F : Form) (bytes piece : List ℕ) (n m : ℕ) → Stops w F bytes piece n → Stops w F bytes piece m → n ≡ m
stops_once w F bytes piece n m a b = go (dec_lt n m) (dec_lt m n)
  where
    less : (i j : ℕ) → Stops w F bytes piece i → Stops w F bytes piece j → i < j → ⊥
    less i j x y l =
        let u = y.within in
        let s = x.stop (omega arith) in
        y.least i s.0 l s.1

    go : Dec (n < m) → Dec (m < n) → n ≡ m
    go (yes l) k = absurd (less n m a b l)
    go (no l) (yes k) = absurd (less m n b a k)
    go (no l) (no k) = omega arith

feeds_took : (w : ℕ) (F : Form) (bytes piece : List ℕ) (t : Told) → Feeds w F bytes piece t → (n : ℕ) × (t ≡ took n) × Stops w F bytes piece n
feeds_took w F bytes piece (refused r) k = absurd k
feeds_took w F bytes piece done k = absurd k
feeds_took w F bytes piece (took n) k = (n, refl, k)
feeds_took w F bytes piece (found e) k = absurd k
feeds_took w F bytes piece none k = absurd k
feeds_took w F bytes piece (count n) k = absurd k
feeds_took w F bytes piece (shown row) k = absurd k

feeds_once : (w : ℕ) (F : Form) (bytes piece : List ℕ) (t u : Told) → Feeds w F bytes piece t → Feeds w F bytes piece u → t ≡ u
feeds_once w F bytes piece t u a b =
    let x = feeds_took w F bytes piece t a in
    let y = feeds_took w F bytes piece u b in
    x.1 ∙ ap took (stops_once w F bytes piece x.0 y.0 x.2 y.2) ∙ sym y.1

by_once : (o : Option Refusal) (P Q : Type 0) (t u : Told) → (P → Q → t ≡ u) → By o P t → By o Q u → t ≡ u
by_once (Some r) P Q t u f a b = a ∙ sym b
by_once None P Q t u f a b = f a b

pub answers_once :
    (w : ℕ) (s : State) (F : Form) (bytes : List ℕ) (ws : List Place) (a : Asked) (t u : Told) →
    Answers w s F bytes ws a t →
    Answers w s F bytes ws a u →
    t ≡ u
answers_once w s F bytes ws (load text) t u a b = loads_once w text t u a b
answers_once w s F bytes ws rewind t u a b = by_once (rewind_refusal s) (t ≡ done) (u ≡ done) t u (λ x y. x ∙ sym y) a b
answers_once w s F bytes ws (feed piece blocks) t u a b =
    by_once (feed_refusal s (some ws) (weighs s F) (length bytes) (length piece) blocks) (Feeds w F bytes piece t) (Feeds w F bytes piece u) t u
    (feeds_once w F bytes piece t u) a b
answers_once w s F bytes ws draw t u a b = a ∙ sym b
answers_once w s F bytes ws (close blocks) t u a b =
    by_once (close_refusal s (some ws) (weighs s F) blocks) (t ≡ done) (u ≡ done) t u (λ x y. x ∙ sym y) a b
answers_once w s F bytes ws taken t u a b = a ∙ sym b
answers_once w s F bytes ws weight t u a b = a ∙ sym b
answers_once w s F bytes ws waiting t u a b = a ∙ sym b

-- an empty search answers the same whatever form is sought
any_form :
    (w : ℕ) (F G : Form) (bytes : List ℕ) (ws : List Place) (a : Asked) (t : Told) →
    Answers w Empty F bytes ws a t →
    Answers w Empty G bytes ws a t
any_form w F G bytes ws (load text) t k = k
any_form w F G bytes ws rewind t k = k
any_form w F G bytes ws (feed piece blocks) t k = k
any_form w F G bytes ws draw t k = k
any_form w F G bytes ws (close blocks) t k = k
any_form w F G bytes ws taken t k = k
any_form w F G bytes ws weight t k = k
any_form w F G bytes ws waiting t k = k

-- a right answer, for anything that stands after h
pub right_at :
    {w : ℕ} {h : History} {F : Form} {ws : List Place} (a : Asked) (t : Told) →
    Stands w h F ws →
    Right w h a t →
    Answers w (state_of h) F (taken_of h) ws a t
right_at {w} {h} {F} {ws} a t s r = go (state_of h) refl
  where
    G : Form
    G = r.form

    vs : List Place
    vs = r.waits

    same : (state_of h ≡ Empty → ⊥) → Answers w (state_of h) F (taken_of h) ws a t
    same l =
        let e = stands_unique r.stands s l in
        subst (λ x. Answers w (state_of h) F (taken_of h) x a t) e.1
        (subst (λ f. Answers w (state_of h) f (taken_of h) vs a t) e.0 r.answers)

    go : (q : State) → state_of h ≡ q → Answers w (state_of h) F (taken_of h) ws a t
    go Empty e =
        let z = (stands_empty r.stands e).1 ∙ sym (stands_empty s e).1 in
        subst (λ q. Answers w q F (taken_of h) ws a t) (sym e)
        (any_form w G F (taken_of h) ws a t
        (subst (λ q. Answers w q G (taken_of h) ws a t) e
        (subst (λ x. Answers w (state_of h) G (taken_of h) x a t) z r.answers)))
    go Open e = same (λ k. open_loaded (sym e ∙ k))
    go Closed e = same (λ k. closed_loaded (sym e ∙ k))

pub right_once : RightOnce
right_once w h a t u r q =
    answers_once w (state_of h) q.form (taken_of h) q.waits a t u (right_at a t q.stands r) q.answers
