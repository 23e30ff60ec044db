-- The law follows from right answers. Assumes nothing.
use Rattle.std.proofs.Common.{◌≡◌, ℕ, ◌+◌, ◌<◌, ◌≤◌, Bool, true, false, ◌⊎◌, List, [], ◌∷◌, ◌++◌, length, take, Some, None, Option, sym, refl, ap, ◌∙◌, subst, inl, inr, ⊎_elim, append_assoc, append-nil, mod-lt, arith}
use Rattle.std.proofs.lemmas.Bool.{false≢true}
use Rattle.std.proofs.lemmas.Option.{none-some}
use Rattle.form.specs.Form as form
use Rattle.form.specs.Form.{Form}
use Rattle.form.specs.Lines.{Place, IsEnd, Has, Ends}
use Rattle.form.specs.Positions.{closed}
use Rattle.form.specs.Running.{EarlyEnds}
use Rattle.form.proofs.Running.{early_unique, early_first, closed_ends}
use Rattle.refusal.specs.declared.Refusal.{Refusal}
use Rattle.refusal.specs.declared.Refusal.TheVariants.{EndsWaiting}
use Rattle.history.specs.Calls.{Asked, load, rewind, feed, draw, close, taken, weight, waiting, Told, refused, done, took, found, none, count, shown, History, State, Empty, Open, Closed, state_of, text_of, taken_of, drawn_of, dry_after, dry}
use Rattle.compiler.specs.Faults.{Reads}
use Rattle.history.specs.Law.{First, Law}
use Rattle.history.specs.Rules.{matched, Stands, check, behind, some, rewind_refusal, feed_refusal, close_refusal, By, Loads, Feeds, next, Right, LawFollows}
use Rattle.history.proofs.Blocks.{partial, matched_partial, length-matched}
use Rattle.history.proofs.Standing.{on, open_loaded, closed_loaded, stands_form, stands_empty, begun, still, unmoved_refused, after_taken, after_weight, after_waiting, after_none, after_draw, after_load, after_rewind, after_feed, after_close, fed_ends, closed_off}

-- the law, of what stands after h
module _ (w : ℕ) (h : History) (F : Form) (ws : List Place) (s : Stands w h F ws) where
  -- the same, for the form that the text is said to have
  at_form : (q : State) → state_of h ≡ q → (q ≡ Empty → ⊥) → (G : Form) → Reads (text_of h) G → EarlyEnds (matched w q (taken_of h)) G (drawn_of h ++ ws)
  at_form q o l G r =
      subst (λ f. EarlyEnds (matched w q (taken_of h)) f (drawn_of h ++ ws)) (stands_form s (λ e. l (sym o ∙ e)) r)
      (subst (λ p. EarlyEnds (matched w p (taken_of h)) F (drawn_of h ++ ws)) o s.ends)

  -- the bytes taken, and any that follow, as the matched bytes and what follows those
  split : (rest : List ℕ) → taken_of h ++ rest ≡ matched w Open (taken_of h) ++ (partial w (taken_of h) ++ rest)
  split rest =
      ap (λ (x : List ℕ). x ++ rest) (sym (matched_partial w (taken_of h)))
      ∙ append_assoc (matched w Open (taken_of h)) (partial w (taken_of h)) rest

  running_of : state_of h ≡ Open → (G : Form) → Reads (text_of h) G → (rest : List ℕ) (all : List Place) → Ends (taken_of h ++ rest) G all → First (drawn_of h) all
  running_of o G r rest all k =
      let m : List ℕ = matched w Open (taken_of h) in
      let b =
      early_first m (partial w (taken_of h) ++ rest) G (drawn_of h ++ ws) all (at_form Open o open_loaded G r)
      (subst (λ x. Ends x G all) (split rest) k) in
      (ws ++ b.0, b.1 ∙ append_assoc (drawn_of h) ws b.0)

  all_of : state_of h ≡ Closed → (G : Form) → Reads (text_of h) G → (all : List Place) → Ends (taken_of h) G all → all ≡ drawn_of h ++ ws
  all_of o G r all k =
      early_unique (closed (taken_of h)) G all (drawn_of h ++ ws) ((closed_ends (taken_of h) G all).0 k) (at_form Closed o closed_loaded G r)

  prompt_of : 0 < w → state_of h ≡ Open → ws ≡ [] → (G : Form) → Reads (text_of h) G → (rest : List ℕ) (e : Place) → IsEnd (taken_of h ++ rest) G e
      → e.position + w ≤ length (taken_of h) → Has e (drawn_of h)
  prompt_of pos o z G r rest e k far =
      let m : List ℕ = matched w Open (taken_of h) in
      let n = length-matched w (taken_of h) in
      let u = mod-lt (length (taken_of h)) pos in
      let l : e.position < length m = omega arith in
      let x =
      (at_form Open o open_loaded G r (partial w (taken_of h) ++ rest)).full e (subst (λ y. IsEnd y G e) (split rest) k) l in
      subst (λ y. Has e y) (ap (λ y. drawn_of h ++ y) z ∙ append-nil (drawn_of h)) x

pub law_of : {w : ℕ} {h : History} {F : Form} {ws : List Place} → 0 < w → Stands w h F ws → (dry h ≡ true → ws ≡ []) → Law w h
law_of {w} {h} {F} {ws} pos s z =
    record {
      unloaded = λ e. (stands_empty s e).0;
      running = running_of w h F ws s;
      finished = λ o G r all k. (ws, all_of w h F ws s o G r all k);
      complete =
          λ o d G r all k.
          sym (all_of w h F ws s o G r all k ∙ ap (λ y. drawn_of h ++ y) (z d) ∙ append-nil (drawn_of h));
      prompt = λ o d G r rest e k far. prompt_of w h F ws s pos o (z d) G r rest e k far;
    }

-- something stands after h, and after a draw that found none no end waits
pub record Settled (w : ℕ) (h : History) : Type 0 where
  pub form : Form
  pub waits : List Place
  pub stands : Stands w h form waits
  pub none_waits : dry h ≡ true → waits ≡ []

settled : {w : ℕ} {h : History} {F : Form} {ws : List Place} → dry h ≡ false → Stands w h F ws → Settled w h
settled {F = F} {ws = ws} d s = record { form = F; waits = ws; stands = s; none_waits = λ e. absurd (false≢true (sym d ∙ e)) }

pub not_dry : (a : Asked) (r : Refusal) → dry_after a (refused r) ≡ false
not_dry (load text) r = refl
not_dry rewind r = refl
not_dry (feed piece blocks) r = refl
not_dry draw r = refl
not_dry (close blocks) r = refl
not_dry taken r = refl
not_dry weight r = refl
not_dry waiting r = refl

-- a call that is refused, or else P
refused_or : (o : Option Refusal) (P : Type 0) (t : Told) → By o P t → ((r : Refusal) × (t ≡ refused r)) ⊎ ((o ≡ None) × P)
refused_or (Some r) P t h = inl (r, h)
refused_or None P t h = inr (refl, h)

-- what a call that is not refused says of the search
rewinds : (s : State) → rewind_refusal s ≡ None → s ≡ Empty → ⊥
rewinds Empty e o = none-some _ (sym e)
rewinds Open e o = open_loaded o
rewinds Closed e o = closed_loaded o

pub checked : (b : Bool) (r : Refusal) (o : Option Refusal) → check b r o ≡ None → (b ≡ false) × (o ≡ None)
checked true r o e = absurd (none-some r (sym e))
checked false r o e = (refl, e)

pub no_waits : (ws : List Place) → some ws ≡ false → ws ≡ []
no_waits [] e = refl
no_waits (x ∷ ws) e = absurd (false≢true (sym e))

closes : (s : State) (ws : List Place) (n blocks : ℕ) → close_refusal s (some ws) n blocks ≡ None → (s ≡ Open) × (ws ≡ [])
closes Empty ws n blocks e = absurd (none-some _ (sym e))
closes Open ws n blocks e = (refl, no_waits ws (checked (some ws) EndsWaiting _ e).0)
closes Closed ws n blocks e = absurd (none-some _ (sym e))

-- where neither of two refuses, the first does not
pub first_none : (o p : Option Refusal) → behind o p ≡ None → o ≡ None
first_none (Some r) p e = e
first_none None p e = refl

feeds : (s : State) (ws : List Place) (n bytes piece blocks : ℕ) → feed_refusal s (some ws) n bytes piece blocks ≡ None → (s ≡ Open) × (ws ≡ [])
feeds s ws n bytes piece blocks e = closes s ws n blocks (first_none (close_refusal s (some ws) n blocks) _ e)

module _ (w : ℕ) (h : History) (F : Form) (ws : List Place) (s : Stands w h F ws) where
  is_refused : (a : Asked) (t : Told) → (r : Refusal) × (t ≡ refused r) → Settled w (on a t h)
  is_refused a t (r, e) =
      subst (λ u. Settled w (on a u h)) (sym e) (settled (not_dry a r) (still (unmoved_refused a r h) s))

  loaded : (text : List ℕ) (t : Told) → Loads w text t → Settled w (on (load text) t h)
  loaded text (refused r) k = is_refused (load text) (refused r) (r, refl)
  loaded text done k = settled refl (after_load h text k.1.0 k.1.1)
  loaded text (took n) k = absurd k
  loaded text (found e) k = absurd k
  loaded text none k = absurd k
  loaded text (count n) k = absurd k
  loaded text (shown row) k = absurd k

  rewound : (t : Told) → rewind_refusal (state_of h) ≡ None → t ≡ done → Settled w (on rewind t h)
  rewound t o e =
      subst (λ u. Settled w (on rewind u h)) (sym e) (settled refl (after_rewind (rewinds (state_of h) o) s))

  fed_on : (piece : List ℕ) (blocks : ℕ) (t : Told) → state_of h ≡ Open → ws ≡ [] → Feeds w F (taken_of h) piece t → Settled w (on (feed piece blocks) t h)
  fed_on piece blocks (refused r) o z k = absurd k
  fed_on piece blocks done o z k = absurd k
  fed_on piece blocks (took n) o z k =
      let v = fed_ends o (subst (λ x. Stands w h F x) z s) (take n piece) in
      settled refl (after_feed o s piece blocks n v.0 v.1)
  fed_on piece blocks (found e) o z k = absurd k
  fed_on piece blocks none o z k = absurd k
  fed_on piece blocks (count n) o z k = absurd k
  fed_on piece blocks (shown row) o z k = absurd k

  closed_on : (blocks : ℕ) (t : Told) → state_of h ≡ Open → ws ≡ [] → t ≡ done → Settled w (on (close blocks) t h)
  closed_on blocks t o z e =
      let v = closed_off o (subst (λ x. Stands w h F x) z s) in
      subst (λ u. Settled w (on (close blocks) u h)) (sym e) (settled refl (after_close o s blocks v.0 v.1))

drawn : (w : ℕ) (h : History) (F : Form) (ws : List Place) → Stands w h F ws → Settled w (on draw (next ws) h)
drawn w h F [] s = record { form = F; waits = []; stands = after_none s; none_waits = λ e. refl }
drawn w h F (e ∷ ws) s = settled refl (after_draw s)

-- what stands after a right answer
pub stands_after : (w : ℕ) (h : History) (a : Asked) (t : Told) → Right w h a t → Settled w (on a t h)
stands_after w h (load text) t r = loaded w h r.form r.waits r.stands text t r.answers
stands_after w h rewind t r =
    ⊎_elim (is_refused w h r.form r.waits r.stands rewind t) (λ k. rewound w h r.form r.waits r.stands t k.0 k.1)
    (refused_or _ _ t r.answers)
stands_after w h (feed piece blocks) t r =
    ⊎_elim (is_refused w h r.form r.waits r.stands (feed piece blocks) t)
    (λ k.
    let y = feeds (state_of h) r.waits _ (length (taken_of h)) (length piece) blocks k.0 in
    fed_on w h r.form r.waits r.stands piece blocks t y.0 y.1 k.1)
    (refused_or _ _ t r.answers)
stands_after w h draw t r =
    subst (λ u. Settled w (on draw u h)) (sym r.answers) (drawn w h r.form r.waits r.stands)
stands_after w h (close blocks) t r =
    ⊎_elim (is_refused w h r.form r.waits r.stands (close blocks) t)
    (λ k.
    let y = closes (state_of h) r.waits _ _ k.0 in
    closed_on w h r.form r.waits r.stands blocks t y.0 y.1 k.1)
    (refused_or _ _ t r.answers)
stands_after w h taken t r = settled refl (after_taken t r.stands)
stands_after w h weight t r = settled refl (after_weight t r.stands)
stands_after w h waiting t r = settled refl (after_waiting t r.stands)

pub law_settled : (w : ℕ) (h : History) → 0 < w → Settled w h → Law w h
law_settled w h pos s = law_of pos s.stands s.none_waits

pub law_follows_lem : LawFollows
law_follows_lem w pos [] r = law_of pos (begun w form.start) (λ e. refl)
law_follows_lem w pos (x ∷ h) r =
    (r.0, law_settled w (x ∷ h) pos (stands_after w h x.asked x.told r.0), law_follows_lem w pos h r.1)
