-- What each call answers, and where it leaves the search. Assumes nothing.
use Rattle.std.proofs.Common.{◌≡◌, ℕ, ◌+◌, ◌<◌, ◌≤◌, Bool, true, false, ltb, ◌⊎◌, List, [], ◌∷◌, ◌++◌, length, take, Some, None, Ok, Err, vec_items, Option, Result, sym, refl, ap, ◌∙◌, subst, inl, inr, arith}
use Rattle.std.proofs.lemmas.Bool.{false≢true, ltb-false}
use Rattle.limits.specs.Limits.{longest_piece, longest_recording, need}
use Rattle.form.specs.Form.{Form, weight}
use Rattle.form.specs.Lines.{Place}
use Rattle.form.specs.Positions.{closed}
use Rattle.form.specs.Running.{EarlyEnds}
use Rattle.refusal.specs.declared.ends.End.{End}
use Rattle.refusal.specs.declared.Refusal.{Refusal}
use Rattle.refusal.specs.declared.Refusal.TheVariants.{TooManyBytes, RecordingTooLong}
use Rattle.marks.specs.Counting.{end_of}
use Rattle.machine.specs.Carrying.{entering}
use Rattle.machine.proofs.Ready.{kept_runs}
use Rattle.history.specs.Calls as history
use Rattle.history.specs.Calls.{Asked, Told, Event, History, state_of, text_of, taken_of, drawn_of, dry}
use Rattle.history.specs.Rules as Rules
use Rattle.history.specs.Rules.{matched, Stands, Stops, By, behind, piece_refusal, Answers, Right, some, next, weighs, waiting_row, feed_refusal, close_refusal, rewind_refusal}
use Rattle.history.proofs.Blocks.{matched_step}
use Rattle.history.proofs.Standing.{on, Unmoved, still, unmoved_refused, begun, after_load, after_rewind, after_feed, after_close, after_draw, after_none, after_taken, after_weight, after_waiting, stands_empty, open_loaded, closed_loaded}
use Rattle.history.proofs.Follows.{law_settled, not_dry, checked, first_none, no_waits}
use Rattle.stream.specs.Tables.{rows}
use Rattle.program.specs.Matched.{Standing}
use Rattle.search.specs.Finding.{Blank, Showing, Finds, Goes, Kept, Draws, LoadsText, ends_in}
use Rattle.search.specs.Telling.{state_is, place_of, drawn, as_result, works, asks, is_refused, gathered_of, Running, Ended, Unloaded, Holds, Tells, Left, Performs, ServesIdly, WhereRuns}
use Rattle.search.specs.Entering.{Takes, Closes}
use Rattle.search.specs.declared.calls.State.{State}
use Rattle.search.specs.declared.calls.State.TheVariants as state
use Rattle.search.specs.declared.finder.Finder.{Finder}
use Rattle.search.specs.declared.state.Search.{Search}
use Rattle.search.proofs.Finding.{kept_loaded, waiting_row_lem, ends_wide}
use Rattle.search.proofs.Entering.{not_both}
use Rattle.arrayvec.specs.ArrayVec.{ArrayVec}

-- the bytes that a buffer holds
abbrev gathered_list : ArrayVec ℕ → List ℕ
gathered_list v = v.items

-- a check that refuses, and one that does not
err_is : (o : Option Refusal) (e : Refusal) → as_result o ≡ Err e → o ≡ Some e
err_is None e q = let z : ◌≡◌ {A = ℕ} 0 1 = cc in absurd (omega arith)
err_is (Some d) e q = let p : d ≡ e = cc in ap Some p

ok_is : (o : Option Refusal) → as_result o ≡ Ok tt → o ≡ None
ok_is None q = refl
ok_is (Some d) q = let z : ◌≡◌ {A = ℕ} 0 1 = cc in absurd (omega arith)

module _ {B : Type 0} (row : B → List Bool) (w : ℕ) (eight : 8 ≤ w) where
  -- ---- one call's promise from its parts

  performs : (s u : Search B) (old new : List B) (h : History) (a : Asked) (t : Told) (T : Tells row w s h)
      → Answers w (state_of h) T.form (taken_of h) T.waits a t → Tells row w u (on a t h)
      → (is_refused t ≡ true → Left row w s u × (new ≡ old)) → (asks a ≡ true → Left row w s u) → (works a ≡ false → new ≡ old)
      → Performs row w s u old new h a t
  performs s u old new h a t T answers U refused asking idle =
      record {
        right = record { form = T.form; waits = T.waits; stands = T.stands; answers = answers };
        tells = U;
        law = law_settled w (on a t h) (omega arith) (record { form = U.form; waits = U.waits; stands = U.stands; none_waits = U.dried });
        refused = refused;
        asking = asking;
        idle = idle;
      }

  as_it_was : (s : Search B) → Left row w s s
  as_it_was s =
      record {
        state = refl;
        finder =
            record {
              matcher = record { keeps = record { tree = refl; root = refl; weight = refl; compiled = refl; sizes = refl }; carries = refl; starts = refl };
              ends = refl;
              lines = refl;
            };
        gathered = refl;
        taken = refl;
      }

  -- ---- a refused call

  -- calls that bring nothing about leave what a search tells
  tells_still : {s : Search B} {h g : History} → Unmoved g h → (T : Tells row w s h) → (dry g ≡ true → T.waits ≡ []) → Tells row w s g
  tells_still {s} {h} {g} U T dried =
      record {
        form = T.form;
        waits = T.waits;
        state = T.state ∙ sym U.state;
        stands = still U T.stands;
        dried = dried;
        holds =
            subst (λ z. Holds row w z s T.form (taken_of g) (drawn_of g) T.waits) (sym U.state)
            (subst (λ b. Holds row w (state_of h) s T.form b (drawn_of g) T.waits) (sym U.taken)
            (subst (λ d. Holds row w (state_of h) s T.form (taken_of h) d T.waits) (sym U.drawn) T.holds));
      }

  refused_tells : (s : Search B) (h : History) (a : Asked) (e : Refusal) → Tells row w s h → Tells row w s (on a (history.refused e) h)
  refused_tells s h a e T = tells_still (unmoved_refused a e h) T (λ f. absurd (false≢true (sym (not_dry a e) ∙ f)))

  pub refuses : (s : Search B) (blocks : List B) (h : History) (a : Asked) (e : Refusal) (T : Tells row w s h)
      → Answers w (state_of h) T.form (taken_of h) T.waits a (history.refused e) → Performs row w s s blocks blocks h a (history.refused e)
  refuses s blocks h a e T answers =
      performs s s blocks blocks h a (history.refused e) T answers (refused_tells s h a e T) (λ _. (as_it_was s, refl)) (λ _. as_it_was s) (λ _. refl)

  -- the state that the code has is the history's
  pub state_at : (s : Search B) (h : History) (z : State) → s.state ≡ z → Tells row w s h → state_of h ≡ state_is z
  state_at s h z e T = sym T.state ∙ ap state_is e

  -- a call that is refused in the state z, whatever was loaded and taken
  pub refused_in : (z : history.State) (a : Asked) (e : Refusal) → ((F : Form) (bytes : List ℕ) (ws : List Place) → Answers w z F bytes ws a (history.refused e))
      → (s : Search B) → state_is s.state ≡ z → ServesIdly row w s s a (history.refused e)
  refused_in z a e answers s is blocks h T =
      refuses s blocks h a e T
      (subst (λ q. Answers w q T.form (taken_of h) T.waits a (history.refused e)) (sym is ∙ T.state) (answers T.form (taken_of h) T.waits))

  -- ---- the states

  pub is_running : (s : Search B) (h : History) (e : state_of h ≡ history.Open) (T : Tells row w s h) → Running row w s T.form (taken_of h) (drawn_of h) T.waits
  is_running s h e T = subst (λ z. Holds row w z s T.form (taken_of h) (drawn_of h) T.waits) e T.holds

  pub is_ended : (s : Search B) (h : History) (e : state_of h ≡ history.Closed) (T : Tells row w s h) → Ended row w s T.form (taken_of h) (drawn_of h) T.waits
  is_ended s h e T = subst (λ z. Holds row w z s T.form (taken_of h) (drawn_of h) T.waits) e T.holds

  pub is_unloaded : (s : Search B) (h : History) (e : state_of h ≡ history.Empty) (T : Tells row w s h) → Unloaded row w s
  is_unloaded s h e T = subst (λ z. Holds row w z s T.form (taken_of h) (drawn_of h) T.waits) e T.holds

  -- the bytes that an open search has matched
  pub matched_is : (s : Search B) (F : Form) (bytes : List ℕ) (hs ws : List Place) (R : Running row w s F bytes hs ws)
      → matched w history.Open bytes ≡ R.matched
  matched_is s F bytes hs ws R = matched_step w bytes R.matched (gathered_of s) R.parts R.goes.full R.short

  -- ---- a newborn search

  pub newborn : (s : Search B) (F : Form) → s.state ≡ state.Empty → Blank row w s.finder → s.taken ≡ 0 → Tells row w s []
  newborn s F e b t =
      record {
        form = F;
        waits = [];
        state = ap state_is e;
        stands = begun w F;
        dried = λ f. absurd (false≢true f);
        holds = record { blank = b; taken = t };
      }

  -- ---- load

  opened : (u : Search B) (F : Form) (x : Finder B) → Finds row w x F [] [] [] → Goes row w x F [] → u.finder ≡ x → gathered_of u ≡ [] → u.taken ≡ 0 → Running row w u F [] [] []
  opened u F x X G finder empty taken =
      record {
        matched = [];
        finds = subst (λ y. Finds row w y F [] [] []) (sym finder) X;
        goes = subst (λ y. Goes row w y F []) (sym finder) G;
        parts = sym empty;
        short = let e = ap length empty in omega arith;
        taken = taken;
        few = omega arith;
      }

  pub load_done : (s u : Search B) (x : Finder B) (blocks : List B) (h : History) (text : List ℕ) → LoadsText row w text s.finder x (Ok tt)
      → u.state ≡ state.Open → u.finder ≡ x → gathered_of u ≡ [] → u.taken ≡ 0 → Tells row w s h → Performs row w s u blocks blocks h (history.load text) history.done
  load_done s u x blocks h text L state finder empty taken T =
      let F = L.1.0 in
      performs s u blocks blocks h (history.load text) history.done T (L.0, (F, L.1.1))
      (record {
        form = F;
        waits = [];
        state = ap state_is state;
        stands = after_load h text F L.1.1;
        dried = λ f. absurd (false≢true f);
        holds = opened u F x L.1.2 L.1.3 finder empty taken;
      })
      (λ f. absurd (false≢true f)) (λ f. absurd (false≢true f)) (λ _. refl)

  -- what is kept of a finder
  kept_finds : (x y : Finder B) → Kept row w x y → (F : Form) (m : List ℕ) (hs ws : List Place) → Finds row w x F m hs ws → Finds row w y F m hs ws
  kept_finds x y K F m hs ws X =
      record {
        loaded = kept_loaded F _ _ K.matcher.keeps X.loaded;
        narrow = X.narrow;
        few = X.few;
        early = X.early;
        blank = λ z. record { none = ends ∙ (X.blank z).none; lines = K.lines ∙ (X.blank z).lines };
        shown = λ p. let s = X.shown p in (s.0, K.lines ∙ s.1, subst (λ b. Showing row w s.0 b m ws) (sym ends) s.2);
      }
    where
      ends : ends_in row w y ≡ ends_in row w x
      ends = ap (λ v. rows row (vec_items v) 0) K.ends

  kept_goes : (x y : Finder B) → Kept row w x y → (F : Form) (m : List ℕ) → Goes row w x F m → Goes row w y F m
  kept_goes x y K F m G =
      let M = G.carried in
      record {
        carried =
            record {
              runs = kept_runs F _ _ K.matcher.keeps M.runs;
              carries = λ t h. subst (λ c. Standing F t (length m) (entering c)) (sym K.matcher.carries) (M.carries t h);
              starts = K.matcher.starts ∙ M.starts;
            };
        full = G.full;
      }

  left_holds : (s u : Search B) → Left row w s u → (z : history.State) (F : Form) (bytes : List ℕ) (hs ws : List Place) → Holds row w z s F bytes hs ws → Holds row w z u F bytes hs ws
  left_holds s u L history.Empty F bytes hs ws H =
      record {
        blank = record { none = ap (λ v. rows row (vec_items v) 0) L.finder.ends ∙ H.blank.none; lines = L.finder.lines ∙ H.blank.lines };
        taken = L.taken ∙ H.taken;
      }
  left_holds s u L history.Open F bytes hs ws H =
      record {
        matched = H.matched;
        finds = kept_finds _ _ L.finder F _ hs ws H.finds;
        goes = kept_goes _ _ L.finder F _ H.goes;
        parts = H.parts ∙ (λ i. H.matched ++ gathered_list (sym L.gathered i));
        short = subst (λ v. length (gathered_list v) < w) (sym L.gathered) H.short;
        taken = L.taken ∙ H.taken;
        few = H.few;
      }
  left_holds s u L history.Closed F bytes hs ws H =
      record { finds = kept_finds _ _ L.finder F _ hs ws H.finds; taken = L.taken ∙ H.taken; few = H.few }

  left_tells : (s u : Search B) → Left row w s u → (h : History) → Tells row w s h → Tells row w u h
  left_tells s u L h T =
      record {
        form = T.form;
        waits = T.waits;
        state = ap state_is L.state ∙ T.state;
        stands = T.stands;
        dried = T.dried;
        holds = left_holds s u L (state_of h) T.form (taken_of h) (drawn_of h) T.waits T.holds;
      }

  pub load_refused : (s u : Search B) (blocks : List B) (h : History) (text : List ℕ) (e : Refusal) → LoadsText row w text s.finder u.finder (Err e)
      → u.state ≡ s.state → u.gathered ≡ s.gathered → u.taken ≡ s.taken → Tells row w s h
      → Performs row w s u blocks blocks h (history.load text) (history.refused e)
  load_refused s u blocks h text e K state gathered taken T =
      let L : Left row w s u = record { state = state; finder = K.1; gathered = gathered; taken = taken } in
      performs s u blocks blocks h (history.load text) (history.refused e) T K.0 (left_tells s u L _ (refused_tells s h (history.load text) e T)) (λ _. (L, refl))
      (λ f. absurd (false≢true f)) (λ _. refl)

  -- ---- rewind

  pub rewind_done : (s u : Search B) (x : Finder B) (blocks : List B) (h : History)
      → ((F : Form) (m : List ℕ) (hs ws : List Place) → Finds row w s.finder F m hs ws → Finds row w x F [] [] [] × Goes row w x F [])
      → (s.state ≡ state.Empty → ⊥) → u.state ≡ state.Open → u.finder ≡ x → gathered_of u ≡ [] → u.taken ≡ 0 → Tells row w s h
      → Performs row w s u blocks blocks h history.rewind history.done
  rewind_done s u x blocks h back loaded st finder empty taken T = go (state_of h) refl
    where
      not_empty : state_of h ≡ history.Empty → ⊥
      not_empty e = loaded (code s.state (T.state ∙ e))
        where
          code : (z : State) → state_is z ≡ history.Empty → z ≡ state.Empty
          code state.Empty q = refl
          code state.Open q = absurd (open_loaded q)
          code state.Closed q = absurd (closed_loaded q)

      done : Answers w (state_of h) T.form (taken_of h) T.waits history.rewind history.done → (Finds row w x T.form [] [] [] × Goes row w x T.form [])
          → Performs row w s u blocks blocks h history.rewind history.done
      done answers X =
          performs s u blocks blocks h history.rewind history.done T answers
          (record {
            form = T.form;
            waits = [];
            state = ap state_is st;
            stands = after_rewind not_empty T.stands;
            dried = λ f. absurd (false≢true f);
            holds = opened u T.form x X.0 X.1 finder empty taken;
          })
          (λ f. absurd (false≢true f)) (λ f. absurd (false≢true f)) (λ _. refl)

      go : (z : history.State) → state_of h ≡ z → Performs row w s u blocks blocks h history.rewind history.done
      go history.Empty e = absurd (not_empty e)
      go history.Open e =
          done (subst (λ z. Answers w z T.form (taken_of h) T.waits history.rewind history.done) (sym e) refl) (back _ _ _ _ (is_running s h e T).finds)
      go history.Closed e =
          done (subst (λ z. Answers w z T.form (taken_of h) T.waits history.rewind history.done) (sym e) refl) (back _ _ _ _ (is_ended s h e T).finds)

  -- ---- feed

  -- a close and a feed that are not refused
  pub closed_checks : (waits : Bool) (n blocks : ℕ) → close_refusal history.Open waits n blocks ≡ None → (waits ≡ false) × (need n ≤ blocks)
  closed_checks waits n blocks e =
      let a = checked waits _ _ e in
      let b = checked (ltb blocks (need n)) _ _ a.1 in
      (a.0, ltb-false blocks (need n) b.0)

  pub fed_checks : (waits : Bool) (n taken piece blocks : ℕ) → feed_refusal history.Open waits n taken piece blocks ≡ None
      → (waits ≡ false) × (need n ≤ blocks) × (taken + piece ≤ longest_recording)
  fed_checks waits n taken piece blocks e =
      let c = first_none (close_refusal history.Open waits n blocks) (piece_refusal taken piece) e in
      let k = closed_checks waits n blocks c in
      let a = checked (ltb longest_piece piece) TooManyBytes _ (sym (ap (λ o. behind o (piece_refusal taken piece)) c) ∙ e) in
      let b = checked (ltb longest_recording (taken + piece)) RecordingTooLong None a.1 in
      (k.0, k.1, ltb-false longest_recording (taken + piece) b.0)

  module _ (s : Search B) (h : History) (open' : s.state ≡ state.Open) (T : Tells row w s h) where
    is : state_of h ≡ history.Open
    is = state_at s h state.Open open' T

    R : Running row w s T.form (taken_of h) (drawn_of h) T.waits
    R = is_running s h is T

    -- what the check of a feed or a close answered
    abbrev pub MayFeed : (piece blocks : ℕ) → Result (Unit {0}) Refusal → Type 0
    MayFeed piece blocks r = WhereRuns row w s (λ F bytes ws. r ≡ as_result (feed_refusal history.Open (some ws) (weight F) (length bytes) piece blocks))

    abbrev pub MayClose : (blocks : ℕ) → Result (Unit {0}) Refusal → Type 0
    MayClose blocks r = WhereRuns row w s (λ F bytes ws. r ≡ as_result (close_refusal history.Open (some ws) (weight F) blocks))

    -- refused by it
    pub feed_refused : (blocks : List B) (p : List ℕ) (m : Result (Unit {0}) Refusal) (e : Refusal) → MayFeed (length p) (length blocks) m → m ≡ Err e
        → Performs row w s s blocks blocks h (history.feed p (length blocks)) (history.refused e)
    feed_refused blocks p m e may was =
        let r = err_is _ e (sym (may T.form (taken_of h) (drawn_of h) T.waits R) ∙ was) in
        refuses s blocks h (history.feed p (length blocks)) e T
        (subst (λ z. Answers w z T.form (taken_of h) T.waits (history.feed p (length blocks)) (history.refused e)) (sym is)
        (subst (λ o. By o (Rules.Feeds w T.form (taken_of h) p (history.refused e)) (history.refused e)) (sym r) refl))

    pub close_refused : (blocks : List B) (m : Result (Unit {0}) Refusal) (e : Refusal) → MayClose (length blocks) m → m ≡ Err e
        → Performs row w s s blocks blocks h (history.close (length blocks)) (history.refused e)
    close_refused blocks m e may was =
        let r = err_is _ e (sym (may T.form (taken_of h) (drawn_of h) T.waits R) ∙ was) in
        refuses s blocks h (history.close (length blocks)) e T
        (subst (λ z. Answers w z T.form (taken_of h) T.waits (history.close (length blocks)) (history.refused e)) (sym is)
        (subst (λ o. By o (◌≡◌ {A = Told} (history.refused e) history.done) (history.refused e)) (sym r) refl))

    -- the ends that are matched
    ends_of : (u : Search B) (bytes : List ℕ) (hs vs : List Place) (U : Running row w u T.form bytes hs vs)
        → EarlyEnds (matched w history.Open bytes) T.form (hs ++ vs)
    ends_of u bytes hs vs U = subst (λ m. EarlyEnds m T.form (hs ++ vs)) (sym (matched_is u T.form bytes hs vs U)) U.finds.early

    -- accepted
    pub feed_took : (u : Search B) (old new : List B) (p : List ℕ) (m : Result (Unit {0}) Refusal) (n : ℕ) → MayFeed (length p) (length old) m → m ≡ Ok tt
        → Takes row w s u p (length old) (Ok n)
        → Performs row w s u old new h (history.feed p (length old)) (history.took n)
    feed_took u old new p m n may was K =
        let r = ok_is _ (sym (may T.form (taken_of h) (drawn_of h) T.waits R) ∙ was) in
        let c = fed_checks (some T.waits) (weight T.form) (length (taken_of h)) (length p) (length old) r in
        let none = no_waits T.waits c.0 in
        let R₀ = subst (Running row w s T.form (taken_of h) (drawn_of h)) none R in
        let y = K.on T.form (taken_of h) (drawn_of h) R₀ c.1 c.2 in
        let same : n ≡ y.0 = let q = y.2 in cc in
        let stops = subst (Stops w T.form (taken_of h) p) (sym same) y.3 in
        let U = subst (λ k. Running row w u T.form (taken_of h ++ take k p) (drawn_of h) y.1) (sym same) y.4 in
        performs s u old new h (history.feed p (length old)) (history.took n) T
        (subst (λ z. Answers w z T.form (taken_of h) T.waits (history.feed p (length old)) (history.took n)) (sym is)
        (subst (λ o. By o (Rules.Feeds w T.form (taken_of h) p (history.took n)) (history.took n)) (sym r) stops))
        (record {
          form = T.form;
          waits = y.1;
          state = ap state_is K.state ∙ T.state;
          stands = after_feed is T.stands p (length old) n y.1 (ends_of u (taken_of h ++ take n p) (drawn_of h) y.1 U);
          dried = λ f. absurd (false≢true f);
          holds = subst (λ z. Holds row w z u T.form (taken_of h ++ take n p) (drawn_of h) y.1) (sym is) U;
        })
        (λ f. absurd (false≢true f)) (λ f. absurd (false≢true f)) (λ f. absurd (false≢true (sym f)))

    -- a feed that is not refused is not refused later
    pub feed_never : (u : Search B) (blocks : ℕ) (p : List ℕ) (m : Result (Unit {0}) Refusal) (e : Refusal) → MayFeed (length p) blocks m → m ≡ Ok tt
        → Takes row w s u p blocks (Err e) → ⊥
    feed_never u blocks p m e may was K =
        let r = ok_is _ (sym (may T.form (taken_of h) (drawn_of h) T.waits R) ∙ was) in
        let c = fed_checks (some T.waits) (weight T.form) (length (taken_of h)) (length p) blocks r in
        let none = no_waits T.waits c.0 in
        let R₀ = subst (Running row w s T.form (taken_of h) (drawn_of h)) none R in
        let y = K.on T.form (taken_of h) (drawn_of h) R₀ c.1 c.2 in
        not_both (Err e) y.0 e y.2 refl

    -- ---- close

    closes : (u : Search B) (blocks : ℕ) (m r : Result (Unit {0}) Refusal) → MayClose blocks m → m ≡ Ok tt → Closes row w s u blocks r
        → (vs : List Place) × (r ≡ Ok tt) × Finds row w u.finder T.form (closed (taken_of h)) (drawn_of h) vs
    closes u blocks m r may was K =
        let ok = ok_is _ (sym (may T.form (taken_of h) (drawn_of h) T.waits R) ∙ was) in
        let c = closed_checks (some T.waits) (weight T.form) blocks ok in
        let none = no_waits T.waits c.0 in
        K.on T.form (taken_of h) (drawn_of h) (subst (Running row w s T.form (taken_of h) (drawn_of h)) none R) c.1

    pub close_never : (u : Search B) (blocks : ℕ) (m : Result (Unit {0}) Refusal) (e : Refusal) → MayClose blocks m → m ≡ Ok tt → Closes row w s u blocks (Err e) → ⊥
    close_never u blocks m e may was K = let y = closes u blocks m (Err e) may was K in not_both (Err e) tt e y.1 refl

    pub close_done : (v u : Search B) (old new : List B) (m : Result (Unit {0}) Refusal) → MayClose (length old) m → m ≡ Ok tt
        → Closes row w s v (length old) (Ok tt) → u.finder ≡ v.finder → u.taken ≡ v.taken → u.state ≡ state.Closed
        → Performs row w s u old new h (history.close (length old)) history.done
    close_done v u old new m may was K finder taken shut =
        let ok = ok_is _ (sym (may T.form (taken_of h) (drawn_of h) T.waits R) ∙ was) in
        let y = closes v (length old) m (Ok tt) may was K in
        let X = subst (λ x. Finds row w x T.form (closed (taken_of h)) (drawn_of h) y.0) (sym finder) y.2 in
        performs s u old new h (history.close (length old)) history.done T
        (subst (λ z. Answers w z T.form (taken_of h) T.waits (history.close (length old)) history.done) (sym is)
        (subst (λ o. By o (◌≡◌ {A = Told} history.done history.done) history.done) (sym ok) refl))
        (record {
          form = T.form;
          waits = y.0;
          state = ap state_is shut;
          stands = after_close is T.stands (length old) y.0 X.early;
          dried = λ f. absurd (false≢true f);
          holds = record { finds = X; taken = taken ∙ K.taken ∙ R.taken; few = R.few };
        })
        (λ f. absurd (false≢true f)) (λ f. absurd (false≢true f)) (λ f. absurd (false≢true (sym f)))

  -- ---- draw

  -- what a state finds: nothing where no text was loaded, and else it can hand out an end
  abbrev FoundIn : history.State → Search B → Form → List ℕ → (hs ws : List Place) → Type 0
  FoundIn z s F bytes hs ws =
      Unloaded row w s ⊎ ((m : List ℕ) × Finds row w s.finder F m hs ws × ((u : Search B) (p : Place) (vs : List Place)
      → Finds row w u.finder F m (hs ++ p ∷ []) vs → (Goes row w s.finder F m → Goes row w u.finder F m)
      → u.gathered ≡ s.gathered → u.taken ≡ s.taken → Holds row w z u F bytes (hs ++ p ∷ []) vs))

  found_in : (z : history.State) (s : Search B) (F : Form) (bytes : List ℕ) (hs ws : List Place) → Holds row w z s F bytes hs ws → FoundIn z s F bytes hs ws
  found_in history.Empty s F bytes hs ws H = inl H
  found_in history.Open s F bytes hs ws H =
      inr (
        H.matched,
        H.finds,
        λ u p vs X G g t.
            record {
              matched = H.matched;
              finds = X;
              goes = G H.goes;
              parts = H.parts ∙ (λ i. H.matched ++ gathered_list (sym g i));
              short = subst (λ v. length (gathered_list v) < w) (sym g) H.short;
              taken = t ∙ H.taken;
              few = H.few;
            },
      )
  found_in history.Closed s F bytes hs ws H =
      inr (closed bytes, H.finds, λ u p vs X G g t. record { finds = X; taken = t ∙ H.taken; few = H.few })

  same_place : (p : Place) → place_of (end_of p) ≡ p
  same_place p = refl

  draw_found : (s u : Search B) (blocks : List B) (h : History) (e : End) → Draws row w s.finder u.finder (Some e)
      → u.state ≡ s.state → u.gathered ≡ s.gathered → u.taken ≡ s.taken → Tells row w s h
      → Performs row w s u blocks blocks h history.draw (history.found (place_of e))
  draw_found s u blocks h e D st g t T =
      go (found_in (state_of h) s T.form (taken_of h) (drawn_of h) T.waits T.holds)
    where
      go : FoundIn (state_of h) s T.form (taken_of h) (drawn_of h) T.waits → Performs row w s u blocks blocks h history.draw (history.found (place_of e))
      go (inl x) = absurd (D.0 x.blank)
      go (inr (m, X, K)) =
          let y = D.1 T.form m (drawn_of h) T.waits X in
          let p = y.0 in
          let vs = y.1 in
          let is : place_of e ≡ p = ap place_of y.3 ∙ same_place p in
          subst (λ q. Performs row w s u blocks blocks h history.draw (history.found q)) (sym is)
          (performs s u blocks blocks h history.draw (history.found p) T (ap next (sym y.2))
          (record {
            form = T.form;
            waits = vs;
            state = ap state_is st ∙ T.state;
            stands = after_draw (subst (Stands w h T.form) y.2 T.stands);
            dried = λ q. absurd (false≢true q);
            holds = K u p vs y.4 y.5 g t;
          })
          (λ q. absurd (false≢true q)) (λ q. absurd (false≢true q)) (λ _. refl))

  draw_none : (s u : Search B) (blocks : List B) (h : History) → Draws row w s.finder u.finder None
      → u.state ≡ s.state → u.gathered ≡ s.gathered → u.taken ≡ s.taken → Tells row w s h
      → Performs row w s u blocks blocks h history.draw history.none
  draw_none s u blocks h D st g t T =
      let L : Left row w s u = record { state = st; finder = subst (λ x. Kept row w s.finder x) (sym D.0) (as_it_was s).finder; gathered = g; taken = t } in
      let none : T.waits ≡ [] = waits_none in
      performs s u blocks blocks h history.draw history.none T (ap next (sym none))
      (record {
        form = T.form;
        waits = T.waits;
        state = ap state_is st ∙ T.state;
        stands = after_none T.stands;
        dried = λ _. none;
        holds = left_holds s u L (state_of h) T.form (taken_of h) (drawn_of h) T.waits T.holds;
      })
      (λ q. absurd (false≢true q)) (λ q. absurd (false≢true q)) (λ _. refl)
    where
      waits_none : T.waits ≡ []
      waits_none = go (state_of h) refl
        where
          go : (z : history.State) → state_of h ≡ z → T.waits ≡ []
          go history.Empty q = (stands_empty T.stands q).1
          go history.Open q = D.1 T.form _ _ _ (is_running s h q T).finds
          go history.Closed q = D.1 T.form _ _ _ (is_ended s h q T).finds

  pub draw_done : (s u : Search B) (blocks : List B) (h : History) (o : Option End) → Draws row w s.finder u.finder o
      → u.state ≡ s.state → u.gathered ≡ s.gathered → u.taken ≡ s.taken → Tells row w s h
      → Performs row w s u blocks blocks h history.draw (drawn o)
  draw_done s u blocks h None D st g t T = draw_none s u blocks h D st g t T
  draw_done s u blocks h (Some e) D st g t T = draw_found s u blocks h e D st g t T

  -- ---- the calls that only ask

  pub says_taken : (s : Search B) (blocks : List B) (h : History) (n : ℕ) → n ≡ s.taken → Tells row w s h → Performs row w s s blocks blocks h history.taken (history.count n)
  says_taken s blocks h n e T =
      performs s s blocks blocks h history.taken (history.count n) T (ap history.count (e ∙ count (state_of h) refl))
      (record { form = T.form; waits = T.waits; state = T.state; stands = after_taken (history.count n) T.stands; dried = λ f. absurd (false≢true f); holds = T.holds })
      (λ f. absurd (false≢true f)) (λ _. as_it_was s) (λ _. refl)
    where
      count : (z : history.State) → state_of h ≡ z → s.taken ≡ length (taken_of h)
      count history.Empty q = (is_unloaded s h q T).taken ∙ ap length (sym (T.stands.unfed q))
      count history.Open q = (is_running s h q T).taken
      count history.Closed q = (is_ended s h q T).taken

  pub says_weight : (s : Search B) (blocks : List B) (h : History) (n : ℕ) (T : Tells row w s h) → n ≡ weighs (state_of h) T.form
      → Performs row w s s blocks blocks h history.weight (history.count n)
  says_weight s blocks h n T e =
      performs s s blocks blocks h history.weight (history.count n) T (ap history.count e)
      (record { form = T.form; waits = T.waits; state = T.state; stands = after_weight (history.count n) T.stands; dried = λ f. absurd (false≢true f); holds = T.holds })
      (λ f. absurd (false≢true f)) (λ _. as_it_was s) (λ _. refl)

  pub says_waiting : ((b : B) → length (row b) ≡ w) → (s : Search B) (blocks : List B) (h : History) (bits : List Bool) → bits ≡ ends_in row w s.finder → Tells row w s h
      → Performs row w s s blocks blocks h history.waiting (history.shown bits)
  says_waiting wide s blocks h bits e T =
      performs s s blocks blocks h history.waiting (history.shown bits) T (ap history.shown (e ∙ shows (state_of h) refl))
      (record { form = T.form; waits = T.waits; state = T.state; stands = after_waiting (history.shown bits) T.stands; dried = λ f. absurd (false≢true f); holds = T.holds })
      (λ f. absurd (false≢true f)) (λ _. as_it_was s) (λ _. refl)
    where
      long : length (ends_in row w s.finder) ≡ w
      long = ends_wide row w eight wide s.finder

      shows : (z : history.State) → state_of h ≡ z → ends_in row w s.finder ≡ waiting_row w (matched w (state_of h) (taken_of h)) T.waits
      shows history.Empty q =
          (is_unloaded s h q T).blank.none ∙ ap (λ l. waiting_row w (matched w (state_of h) (taken_of h)) l) (sym (stands_empty T.stands q).1)
      shows history.Open q =
          let R = is_running s h q T in
          waiting_row_lem row w eight s.finder T.form R.matched (drawn_of h) T.waits R.finds long
          ∙ ap (λ m. waiting_row w m T.waits) (sym (matched_is s T.form (taken_of h) (drawn_of h) T.waits R) ∙ ap (λ z. matched w z (taken_of h)) (sym q))
      shows history.Closed q =
          waiting_row_lem row w eight s.finder T.form (closed (taken_of h)) (drawn_of h) T.waits (is_ended s h q T).finds long
          ∙ ap (λ m. waiting_row w m T.waits) (ap (λ z. matched w z (taken_of h)) (sym q))

-- the second of two checks
pub behind_err : (o p : Option Refusal) (e : Refusal) → as_result o ≡ Err e → as_result (behind o p) ≡ Err e
behind_err None p e q = let z : ◌≡◌ {A = ℕ} 0 1 = cc in absurd (omega arith)
behind_err (Some d) p e q = q

pub behind_ok : (o p : Option Refusal) → as_result o ≡ Ok tt → behind o p ≡ p
behind_ok None p q = refl
behind_ok (Some d) p q = let z : ◌≡◌ {A = ℕ} 0 1 = cc in absurd (omega arith)
