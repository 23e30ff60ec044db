-- What stands after a call, from what stood before it. Assumes nothing.
use Rattle.std.proofs.Common.{◌≡◌, ℕ, List, [], ◌∷◌, ◌++◌, take, sym, refl, ap, ◌∙◌, subst, append_assoc, append-nil, arith}
use mathlib.Core.List.{append_cancel_left}
use Rattle.form.specs.Form.{Form}
use Rattle.form.specs.Lines.{Place}
use Rattle.form.specs.Positions.{closed}
use Rattle.form.specs.Running.{EarlyEnds}
use Rattle.form.proofs.Running.{early_exist, early_unique, early_grow, early_none}
use Rattle.grammar.specs.Verdicts.{accepted}
use Rattle.grammar.proofs.Decided.{one_verdict}
use Rattle.refusal.specs.declared.Refusal.{Refusal}
use Rattle.history.specs.Calls.{Asked, load, rewind, feed, draw, close, taken, weight, waiting, Told, refused, done, took, found, none, History, State, Empty, Open, Closed, state_of, text_of, taken_of, drawn_of}
use Rattle.compiler.specs.Faults.{Reads}
use Rattle.history.specs.Rules.{matched, Sought, Stands}
use Rattle.history.proofs.Blocks.{matched_none, matched_more, matched_closed}

-- a call and its answer, and those before
abbrev pub on : Asked → Told → History → History
on a t h = record { asked = a; told = t } ∷ h

-- no state is two
pub open_loaded : Open ≡ Empty → ⊥
open_loaded e = let z : ◌≡◌ {A = ℕ} 0 1 = cc in omega arith

pub closed_loaded : Closed ≡ Empty → ⊥
closed_loaded e = let z : ◌≡◌ {A = ℕ} 0 1 = cc in omega arith

-- a text that is taken has one form
pub reads_unique : {text : List ℕ} {F G : Form} → Reads text F → Reads text G → F ≡ G
reads_unique {text} {F} {G} a b = let e = one_verdict text (accepted F) (accepted G) a.0 b.0 in cc

sought_reads : (s : State) (text : List ℕ) (F : Form) → (s ≡ Empty → ⊥) → Sought s text F → Reads text F
sought_reads Empty text F l h = absurd (l refl)
sought_reads Open text F l h = h
sought_reads Closed text F l h = h

-- the form that is sought is the text's
pub stands_reads : {w : ℕ} {h : History} {F : Form} {ws : List Place} → Stands w h F ws → (state_of h ≡ Empty → ⊥) → Reads (text_of h) F
stands_reads {h = h} {F = F} s l = sought_reads (state_of h) (text_of h) F l s.sought

pub stands_form :
    {w : ℕ} {h : History} {F G : Form} {ws : List Place} → Stands w h F ws → (state_of h ≡ Empty → ⊥) → Reads (text_of h) G → F ≡ G
stands_form s l r = reads_unique (stands_reads s l) r

-- what stands after the calls is settled by them
pub stands_unique :
    {w : ℕ} {h : History} {F G : Form} {ws vs : List Place} →
    Stands w h F ws →
    Stands w h G vs →
    (state_of h ≡ Empty → ⊥) →
    (F ≡ G) × (ws ≡ vs)
stands_unique {w} {h} {F} {G} {ws} {vs} s t l =
    let m : List ℕ = matched w (state_of h) (taken_of h) in
    let e = stands_form s l (stands_reads t l) in
    let a = subst (λ f. EarlyEnds m f (drawn_of h ++ ws)) e s.ends in
    (e, append_cancel_left (drawn_of h) ws vs (early_unique m G (drawn_of h ++ ws) (drawn_of h ++ vs) a t.ends))

-- in an empty search no end waits, and none was handed out
pub stands_empty :
    {w : ℕ} {h : History} {F : Form} {ws : List Place} → Stands w h F ws → state_of h ≡ Empty → (drawn_of h ≡ []) × (ws ≡ [])
stands_empty {w} {h} {F} {ws} s e =
    let a = subst (λ q. EarlyEnds (matched w q (taken_of h)) F (drawn_of h ++ ws)) e s.ends in
    both (drawn_of h) (early_unique [] F (drawn_of h ++ ws) [] a (early_none F))
  where
    both : (es : List Place) → es ++ ws ≡ [] → (es ≡ []) × (ws ≡ [])
    both [] p = (refl, p)
    both (x ∷ es) p = let z : ◌≡◌ {A = ℕ} 0 1 = cc in absurd (omega arith)

-- before any call
pub begun : (w : ℕ) (F : Form) → Stands w [] F []
begun w F = record { sought = tt; unfed = λ e. refl; ends = early_none F }

-- g is h with calls that brought nothing about
pub record Unmoved (g h : History) : Type 0 where
  pub state : state_of g ≡ state_of h
  pub text : text_of g ≡ text_of h
  pub taken : taken_of g ≡ taken_of h
  pub drawn : drawn_of g ≡ drawn_of h

-- and what stands is left by them
pub still : {w : ℕ} {h g : History} {F : Form} {ws : List Place} → Unmoved g h → Stands w h F ws → Stands w g F ws
still {w} {h} {g} {F} {ws} u s =
    record {
      sought = subst (λ q. Sought q (text_of g) F) (sym u.state) (subst (λ x. Sought (state_of h) x F) (sym u.text) s.sought);
      unfed = λ e. u.taken ∙ s.unfed (sym u.state ∙ e);
      ends =
          subst (λ q. EarlyEnds (matched w q (taken_of g)) F (drawn_of g ++ ws)) (sym u.state)
          (subst (λ x. EarlyEnds (matched w (state_of h) x) F (drawn_of g ++ ws)) (sym u.taken)
          (subst (λ (x : List Place). EarlyEnds (matched w (state_of h) (taken_of h)) F (x ++ ws)) (sym u.drawn) s.ends));
    }

-- a refused call
pub unmoved_refused : (a : Asked) (r : Refusal) (h : History) → Unmoved (on a (refused r) h) h
unmoved_refused (load text) r h = record { state = refl; text = refl; taken = refl; drawn = refl }
unmoved_refused rewind r h = record { state = refl; text = refl; taken = refl; drawn = refl }
unmoved_refused (feed piece blocks) r h = record { state = refl; text = refl; taken = refl; drawn = refl }
unmoved_refused draw r h = record { state = refl; text = refl; taken = refl; drawn = refl }
unmoved_refused (close blocks) r h = record { state = refl; text = refl; taken = refl; drawn = refl }
unmoved_refused taken r h = record { state = refl; text = refl; taken = refl; drawn = refl }
unmoved_refused weight r h = record { state = refl; text = refl; taken = refl; drawn = refl }
unmoved_refused waiting r h = record { state = refl; text = refl; taken = refl; drawn = refl }

pub after_taken : {w : ℕ} {h : History} {F : Form} {ws : List Place} (t : Told) → Stands w h F ws → Stands w (on taken t h) F ws
after_taken t s = still (record { state = refl; text = refl; taken = refl; drawn = refl }) s

pub after_weight : {w : ℕ} {h : History} {F : Form} {ws : List Place} (t : Told) → Stands w h F ws → Stands w (on weight t h) F ws
after_weight t s = still (record { state = refl; text = refl; taken = refl; drawn = refl }) s

pub after_waiting : {w : ℕ} {h : History} {F : Form} {ws : List Place} (t : Told) → Stands w h F ws → Stands w (on waiting t h) F ws
after_waiting t s = still (record { state = refl; text = refl; taken = refl; drawn = refl }) s

-- a draw that found none
pub after_none : {w : ℕ} {h : History} {F : Form} {ws : List Place} → Stands w h F ws → Stands w (on draw none h) F ws
after_none s = still (record { state = refl; text = refl; taken = refl; drawn = refl }) s

-- a draw that found an end
pub after_draw :
    {w : ℕ} {h : History} {F : Form} {e : Place} {ws : List Place} → Stands w h F (e ∷ ws) → Stands w (on draw (found e) h) F ws
after_draw {w} {h} {F} {e} {ws} s =
    record {
      sought = s.sought;
      unfed = s.unfed;
      ends =
          subst (λ x. EarlyEnds (matched w (state_of h) (taken_of h)) F x) (sym (append_assoc (drawn_of h) (e ∷ []) ws)) s.ends;
    }

-- nothing taken and nothing drawn
afresh : (w : ℕ) (F : Form) → EarlyEnds (matched w Open []) F []
afresh w F = subst (λ x. EarlyEnds x F []) (sym (matched_none w)) (early_none F)

pub after_load : {w : ℕ} (h : History) (text : List ℕ) (F : Form) → Reads text F → Stands w (on (load text) done h) F []
after_load {w} h text F r = record { sought = r; unfed = λ e. refl; ends = afresh w F }

pub after_rewind :
    {w : ℕ} {h : History} {F : Form} {ws : List Place} →
    (state_of h ≡ Empty → ⊥) →
    Stands w h F ws →
    Stands w (on rewind done h) F []
after_rewind {w} {h} {F} l s = record { sought = stands_reads s l; unfed = λ e. refl; ends = afresh w F }

pub after_feed :
    {w : ℕ} {h : History} {F : Form} {ws : List Place} →
    state_of h ≡ Open →
    Stands w h F ws →
    (piece : List ℕ) (blocks n : ℕ) (vs : List Place) →
    EarlyEnds (matched w Open (taken_of h ++ take n piece)) F (drawn_of h ++ vs) →
    Stands w (on (feed piece blocks) (took n) h) F vs
after_feed {w} {h} {F} o s piece blocks n vs k =
    record {
      sought = s.sought;
      unfed = λ e. absurd (open_loaded (sym o ∙ e));
      ends = subst (λ q. EarlyEnds (matched w q (taken_of h ++ take n piece)) F (drawn_of h ++ vs)) (sym o) k;
    }

pub after_close :
    {w : ℕ} {h : History} {F : Form} {ws : List Place} →
    state_of h ≡ Open →
    Stands w h F ws →
    (blocks : ℕ) (vs : List Place) →
    EarlyEnds (closed (taken_of h)) F (drawn_of h ++ vs) →
    Stands w (on (close blocks) done h) F vs
after_close {w} {h} {F} o s blocks vs k =
    record {
      sought = stands_reads s (λ e. open_loaded (sym o ∙ e));
      unfed = λ e. absurd (closed_loaded e);
      ends = k;
    }

-- where no end waits, the ends of more matched bytes are those drawn and then some that wait
pub grown :
    {w : ℕ} {h : History} {F : Form} →
    Stands w h F [] →
    (bytes later : List ℕ) →
    bytes ≡ matched w (state_of h) (taken_of h) ++ later →
    (ws : List Place) × EarlyEnds bytes F (drawn_of h ++ ws)
grown {w} {h} {F} s bytes later e =
    let m : List ℕ = matched w (state_of h) (taken_of h) in
    let old : EarlyEnds m F (drawn_of h) = subst (λ x. EarlyEnds m F x) (append-nil (drawn_of h)) s.ends in
    let new = early_exist (m ++ later) F in
    let b = early_grow m later F (drawn_of h) new.0 old new.1 in (
      b.0,
      subst (λ x. EarlyEnds x F (drawn_of h ++ b.0)) (sym e) (subst (λ x. EarlyEnds (m ++ later) F x) b.1 new.1),
    )

-- of a feed and of a close
pub fed_ends :
    {w : ℕ} {h : History} {F : Form} →
    state_of h ≡ Open →
    Stands w h F [] →
    (more : List ℕ) →
    (ws : List Place) × EarlyEnds (matched w Open (taken_of h ++ more)) F (drawn_of h ++ ws)
fed_ends {w} {h} {F} o s more =
    let m = matched_more w (taken_of h) more in
    grown s (matched w Open (taken_of h ++ more)) m.0 (m.1 ∙ ap (λ q. matched w q (taken_of h) ++ m.0) (sym o))

pub closed_off :
    {w : ℕ} {h : History} {F : Form} →
    state_of h ≡ Open →
    Stands w h F [] →
    (ws : List Place) × EarlyEnds (closed (taken_of h)) F (drawn_of h ++ ws)
closed_off {w} {h} {F} o s =
    let m = matched_closed w (taken_of h) in
    grown s (closed (taken_of h)) m.0 (m.1 ∙ ap (λ q. matched w q (taken_of h) ++ m.0) (sym o))
