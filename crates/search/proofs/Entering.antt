-- What becomes of bytes that enter a search. Assumes nothing.
use Rattle.std.proofs.Common.{◌≡◌, ℕ, zero, suc, ◌+◌, ◌-◌, ◌%◌, ◌<◌, ◌≤◌, Bool, true, false, cond, eqb, List, [], ◌∷◌, ◌++◌, length, get_or, take, Some, None, Ok, Err, Result, sym, refl, ap, ◌∙◌, subst, inl, append_assoc, arith, length-append, get_or-append-add}
use native.Mathlib.Decide.{dec_lt}
use Rattle.std.proofs.Math.Seq.{take-append-add, take-length}
use Rattle.std.specs.List.{slice_get}
use Rattle.std.proofs.lemmas.List.{append-nil, take-append-le, length-take-le}
use Rattle.std.proofs.lemmas.Option.{slice_get_within, get_or_from_slice_get, slice_get-get_or}
use Rattle.std.proofs.lemmas.Bool.{false≢true, eq-eqb, or_left}
use Rattle.limits.specs.Limits.{longest_recording, need}
use Rattle.form.specs.Form.{Form, weight}
use Rattle.form.specs.Meaning.{feed}
use Rattle.form.specs.Lines.{Place, Has}
use Rattle.form.specs.Positions.{opens, tape, closed}
use Rattle.form.specs.Running.{EarlyEnds}
use Rattle.form.proofs.Members.{has_right}
use Rattle.refusal.specs.declared.Refusal.{Refusal}
use Rattle.marks.specs.Among.{among}
use Rattle.marks.proofs.Marked.{places_before}
use Rattle.history.specs.Rules.{Fills, Stops, some}
use Rattle.history.proofs.Blocks.{behind_blocks}
use Rattle.history.proofs.Follows.{no_waits}
use Rattle.search.specs.Finding.{padded, Finds, Goes, MatchesMore}
use Rattle.search.specs.Telling.{gathered_of, Running}
use Rattle.search.specs.Entering.{MatchesGathered, Enters, EndsLine}
use Rattle.search.specs.declared.finder.Finder.{Finder}
use Rattle.search.specs.declared.state.Search.{Search}
use Rattle.search.proofs.Finding.{full_more, last_block}

-- a list without a last element is empty
no_last : (xs : List ℕ) → slice_get xs (length xs - 1) ≡ None → length xs ≡ 0
no_last [] e = refl
no_last (x ∷ xs) e =
    let s = slice_get-get_or (x ∷ xs) (length (x ∷ xs) - 1) 0 (omega arith) in
    let z : ◌≡◌ {A = ℕ} 0 1 = cc in
    absurd (omega arith)

-- an answer is not a refusal
pub not_both : {X : Type 0} (r : Result X Refusal) (x : X) (e : Refusal) → r ≡ Ok x → r ≡ Err e → ⊥
not_both r x e p q = let z : ◌≡◌ {A = ℕ} 0 1 = cc in omega arith

some_true : (ws : List Place) → some ws ≡ true → (e : Place) × (vs : List Place) × (ws ≡ e ∷ vs)
some_true [] h = absurd (false≢true h)
some_true (e ∷ vs) h = (e, vs, refl)

-- a rest of a block is no whole number of blocks
not_full : (w : ℕ) (m g : List ℕ) → length m % w ≡ 0 → 0 < length g → length g < w → length (m ++ g) % w ≡ 0 → ⊥
not_full w m g full some short h = let e = behind_blocks w m g full short in omega arith

-- these bytes of the piece are taken, and none of them fills a block that holds an end
abbrev pub Going : {B : Type 0} → (B → List Bool) → ℕ → Search B → Form → List ℕ → List Place → List ℕ → Type 0
Going row w u F bytes hs done =
    Running row w u F (bytes ++ done) hs [] × ((k : ℕ) → 0 < k → k ≤ length done → Fills w F (bytes ++ take k done) → ⊥)

module _ {B : Type 0} (row : B → List Bool) (w : ℕ) (eight : 8 ≤ w) where
  -- ---- a block that holds an end, and one that holds none

  module _ (y : Finder B) (F : Form) (m piece : List ℕ) (hs ws : List Place) (full : length m % w ≡ 0) (size : length piece ≡ w)
      (Y : Finds row w y F (m ++ piece) hs ws) where
    long : length (m ++ piece) ≡ length m + w
    long = length-append m piece ∙ ap (λ n. length m + n) size

    holds : some ws ≡ true → Fills w F (m ++ piece)
    holds h =
        let s = some_true ws h in
        let e = s.0 in
        let here : Has e (hs ++ ws) = has_right e hs ws (subst (Has e) (sym s.2) (inl refl)) in
        let S = Y.shown (omega (arith, long)) in
        let b = last_block row w eight m piece full (omega arith) (omega arith) in
        let from : length m ≤ e.position =
        elim (dec_lt e.position (length m)) [
          | yes l ↦
              let no = places_before (padded (m ++ piece)) _ S.0.base w e.position (let a = S.2.base in omega (arith, a, b)) in
              absurd (false≢true (sym (ap (λ l. among l e.position) (sym s.2 ∙ S.2.waits) ∙ no) ∙ or_left _ _ (eq-eqb e.position e.position refl)))
          | no l ↦ omega arith
        ] in (
          full_more row w eight m piece full size,
          (e, omega (arith, long), ((Y.early []).sound e here).1, λ rest. ((Y.early rest).sound e here).0),
        )

    holds_none : EarlyEnds m F hs → some ws ≡ false → Fills w F (m ++ piece) → ⊥
    holds_none early h f =
        let e = f.1.0 in
        let none = no_waits ws h in
        let all : EarlyEnds (m ++ piece) F hs = subst (EarlyEnds (m ++ piece) F) (ap (λ l. hs ++ l) none ∙ append-nil hs) Y.early in
        let here = (all []).full e (f.1.3 []) f.1.2 in
        omega (arith, ((early []).sound e here).1, f.1.1, long)

  -- ---- bytes that enter

  module _ (s u : Search B) (part : List ℕ) (blocks : ℕ) (F : Form) (bytes : List ℕ) (hs : List Place) (R : Running row w s F bytes hs [])
      (some' : 0 < length part) (room : length (gathered_of s) + length part ≤ w) (enough : need (weight F) ≤ blocks) (far : length bytes + length part ≤ longest_recording) where
    m : List ℕ
    m = R.matched

    g : List ℕ
    g = gathered_of s

    early : EarlyEnds m F hs
    unfolding m
    early = subst (EarlyEnds R.matched F) (append-nil hs) R.finds.early

    abbrev pub Entered : Result Bool Refusal → Type 0
    Entered r =
        (ws : List Place) × (r ≡ Ok (some ws)) × Running row w u F (bytes ++ part) hs ws × (some ws ≡ true → Fills w F (bytes ++ part))
        × (some ws ≡ false → Fills w F (bytes ++ part) → ⊥)

    -- a block is full
    pub entered_full : (block : List ℕ) → length block ≡ w → block ≡ gathered_of s ++ part → (r : Result Bool Refusal)
        → MatchesMore row w s.finder u.finder block blocks r → gathered_of u ≡ [] → u.taken ≡ s.taken + length part → Entered r
    unfolding m g
    entered_full block size is r M empty taken =
        let lb : length (bytes ++ part) ≡ length bytes + length part = length-append bytes part in
        let same : bytes ++ part ≡ m ++ block = ap (λ l. l ++ part) R.parts ∙ append_assoc m g part ∙ ap (λ l. m ++ l) (sym is) in
        let lm : length m + length block ≡ length bytes + length part = sym (length-append m block) ∙ ap length (sym same) ∙ lb in
        let y = M F m hs R.finds R.goes (omega arith) (omega arith) enough (omega arith) in
        let ws = y.0 in (
          ws,
          y.1,
          record {
            matched = m ++ block;
            finds = y.2;
            goes = y.3 size;
            parts = same ∙ sym (append-nil (m ++ block)) ∙ ap (λ l. (m ++ block) ++ l) (sym empty);
            short = let e = ap length empty in omega arith;
            taken = taken ∙ ap (λ n. n + length part) R.taken ∙ sym lb;
            few = omega arith;
          },
          λ h. subst (Fills w F) (sym same) (holds u.finder F m block hs ws R.goes.full size y.2 h),
          λ h f. holds_none u.finder F m block hs ws R.goes.full size y.2 early h (subst (Fills w F) same f),
        )

    -- none is
    pub entered_part : u.finder ≡ s.finder → gathered_of u ≡ gathered_of s ++ part → length (gathered_of u) < w → u.taken ≡ s.taken + length part → Entered (Ok false)
    unfolding m g
    entered_part finder is short taken =
        let lb : length (bytes ++ part) ≡ length bytes + length part = length-append bytes part in
        let same : bytes ++ part ≡ m ++ gathered_of u = ap (λ l. l ++ part) R.parts ∙ append_assoc m g part ∙ ap (λ l. m ++ l) (sym is) in (
          [],
          refl,
          record {
            matched = m;
            finds = subst (λ x. Finds row w x F m hs []) (sym finder) R.finds;
            goes = subst (λ x. Goes row w x F m) (sym finder) R.goes;
            parts = same;
            short = short;
            taken = taken ∙ ap (λ n. n + length part) R.taken ∙ sym lb;
            few = omega arith;
          },
          λ h. absurd (false≢true h),
          λ h f.
              not_full w m (gathered_of u) R.goes.full (let l = ap length is ∙ length-append (gathered_of s) part in omega arith) short
              (subst (λ l. length l % w ≡ 0) same f.0),
        )

  -- ---- a piece, part by part

  -- a place inside a part fills no block
  inside : (s : Search B) (F : Form) (bytes : List ℕ) (hs : List Place) → Running row w s F bytes hs [] → (more : List ℕ) → 0 < length more
      → length (gathered_of s) + length more < w → Fills w F (bytes ++ more) → ⊥
  inside s F bytes hs R more some short f =
      let same : bytes ++ more ≡ R.matched ++ (gathered_of s ++ more) = ap (λ l. l ++ more) R.parts ∙ append_assoc R.matched (gathered_of s) more in
      let l = length-append (gathered_of s) more in
      not_full w R.matched (gathered_of s ++ more) R.goes.full (omega arith) (omega arith) (subst (λ l. length l % w ≡ 0) same f.0)

  module _ (F : Form) (bytes : List ℕ) (hs : List Place) where
    pub begun : (s : Search B) → Running row w s F bytes hs [] → Going row w s F bytes hs []
    begun s R = (subst (λ b. Running row w s F b hs []) (sym (append-nil bytes)) R, λ k a b. absurd (omega arith))

    module _ (s u : Search B) (done part behind piece : List ℕ) (blocks : ℕ) (G : Going row w s F bytes hs done) (is : piece ≡ done ++ (part ++ behind))
        (some' : 0 < length part) (room : length (gathered_of s) + length part ≤ w) (enough : need (weight F) ≤ blocks)
        (far : length bytes + length piece ≤ longest_recording) (r : Result Bool Refusal) (E : Enters row w s u part blocks r) where
      size : length piece ≡ length done + (length part + length behind)
      size = ap length is ∙ length-append done (part ++ behind) ∙ ap (λ n. length done + n) (length-append part behind)

      joined : bytes ++ (done ++ part) ≡ (bytes ++ done) ++ part
      joined = sym (append_assoc bytes done part)

      pub step : (ws : List Place) × (r ≡ Ok (some ws)) × Running row w u F ((bytes ++ done) ++ part) hs ws
          × (some ws ≡ true → Fills w F ((bytes ++ done) ++ part)) × (some ws ≡ false → Fills w F ((bytes ++ done) ++ part) → ⊥)
      step = E.on F (bytes ++ done) hs G.0 enough some' room (omega (arith, size, length-append bytes done))

      before : (k : ℕ) → 0 < k → k < length done + length part → Fills w F (bytes ++ take k (done ++ part)) → ⊥
      before k pos k< f =
          elim (dec_lt (length done) k) [
            | yes h ↦
                let d : ℕ = k - length done in
                let e : length done + d ≡ k = omega arith in
                let ld = length-take-le d part (omega arith) in
                let same : bytes ++ take k (done ++ part) ≡ (bytes ++ done) ++ take d part =
                ap (λ l. bytes ++ l) (ap (λ j. take j (done ++ part)) (sym e) ∙ take-append-add done part d) ∙ sym (append_assoc bytes done (take d part)) in
                inside s F (bytes ++ done) hs G.0 (take d part) (omega (arith, ld)) (omega (arith, ld)) (subst (Fills w F) same f)
            | no h ↦ G.1 k pos (omega arith) (subst (λ l. Fills w F (bytes ++ l)) (take-append-le k done part (omega arith)) f)
          ]

      front : (k : ℕ) → k ≤ length done + length part → take k piece ≡ take k (done ++ part)
      front k h =
          ap (take k) (is ∙ sym (append_assoc done part behind)) ∙ take-append-le k (done ++ part) behind (omega (arith, length-append done part))

      whole : take (length done + length part) (done ++ part) ≡ done ++ part
      whole = take-append-add done part (length part) ∙ ap (λ l. done ++ l) (take-length part)

      -- an end is held: the feed stops there
      pub stopped : r ≡ Ok true → (n : ℕ) → n ≡ length done + length part
          → (m : ℕ) × (ws : List Place) × (◌≡◌ {A = Result ℕ Refusal} (Ok n) (Ok m)) × Stops w F bytes piece m × Running row w u F (bytes ++ take m piece) hs ws
      stopped true' n at =
          let ws = step.0 in
          let yes' : some ws ≡ true = let q = step.1 in cc in
          let all : take n piece ≡ done ++ part = front n (omega arith) ∙ ap (λ j. take j (done ++ part)) at ∙ whole in
          let taken : bytes ++ take n piece ≡ (bytes ++ done) ++ part = ap (λ l. bytes ++ l) all ∙ joined in (
            n,
            ws,
            refl,
            record {
              within = omega (arith, size);
              least = λ k p l f. before k p (omega arith) (subst (λ l. Fills w F (bytes ++ l)) (front k (omega arith)) f);
              stop = λ _. (omega arith, subst (Fills w F) (sym taken) (step.3 yes'));
            },
            subst (λ b. Running row w u F b hs ws) (sym taken) step.2,
          )

      -- none is: the feed goes on
      pub going : r ≡ Ok false → Going row w u F bytes hs (done ++ part)
      going false' =
          let ws = step.0 in
          let no' : some ws ≡ false = let q = step.1 in cc in
          let none = no_waits ws no' in
          let l = length-append done part in (
            subst (λ b. Running row w u F b hs []) (sym joined) (subst (Running row w u F ((bytes ++ done) ++ part) hs) none step.2),
            λ k p h f.
                elim (dec_lt k (length done + length part)) [
                  | yes q ↦ before k p q f
                  | no q ↦
                      let e : k ≡ length done + length part = omega arith in
                      step.4 no' (subst (Fills w F) (ap (λ l. bytes ++ l) (ap (λ j. take j (done ++ part)) e ∙ whole) ∙ joined) f)
                ],
          )

    -- all of the piece
    pub arrived : (u : Search B) (piece : List ℕ) → Going row w u F bytes hs piece
        → (m : ℕ) × (ws : List Place) × (◌≡◌ {A = Result ℕ Refusal} (Ok (length piece)) (Ok m)) × Stops w F bytes piece m
        × Running row w u F (bytes ++ take m piece) hs ws
    arrived u piece G = (
      length piece,
      [],
      refl,
      record { within = omega arith; least = λ k p q. G.1 k p (omega arith); stop = λ q. absurd (omega arith) },
      subst (λ l. Running row w u F (bytes ++ l) hs []) (sym (take-length piece)) G.0,
    )

  -- ---- the recording's end

  opens_last : (t : ℕ → ℕ) (p : ℕ) → 0 < p → opens t p ≡ eqb (t (p - 1)) feed
  opens_last t zero h = absurd (omega arith)
  opens_last t (suc p) h = let e : suc p - 1 ≡ p = omega arith in ap (λ q. eqb (t q) feed) (sym e)

  -- the last byte taken is the last that is gathered
  pub last_gathered : (s : Search B) (F : Form) (bytes : List ℕ) (hs ws : List Place) → Running row w s F bytes hs ws → (b : ℕ)
      → slice_get (gathered_of s) (length (gathered_of s) - 1) ≡ Some b → eqb b feed ≡ opens (tape bytes) (length bytes)
  last_gathered s F bytes hs ws R b is =
      let n = length (gathered_of s) in
      let some' : 0 < n = let l = slice_get_within (gathered_of s) (n - 1) b is in omega arith in
      let l : length bytes ≡ length R.matched + n = ap length R.parts ∙ length-append R.matched (gathered_of s) in
      let at : length bytes - 1 ≡ length R.matched + (n - 1) = omega arith in
      let here : tape bytes (length bytes - 1) ≡ b =
      ap (λ q. get_or bytes q feed) at ∙ ap (λ x. get_or x (length R.matched + (n - 1)) feed) R.parts ∙ get_or-append-add R.matched (gathered_of s) (n - 1) feed
      ∙ get_or_from_slice_get (gathered_of s) (n - 1) b feed is in
      sym (opens_last (tape bytes) (length bytes) (omega arith) ∙ ap (λ v. eqb v feed) here)

-- ---- the end of a recording, matched

module _ {B : Type 0} (row : B → List Bool) (w : ℕ) (eight : 8 ≤ w) (s v : Search B) (E : EndsLine row w s v) (F : Form) (bytes : List ℕ) (hs : List Place)
    (R : Running row w s F bytes hs []) where
  L : (gathered_of v ≡ gathered_of s ++ cond (opens (tape bytes) (length bytes)) [] (feed ∷ [])) × (length (gathered_of v) ≤ w)
  L = E.line F bytes hs [] R

  parts : closed bytes ≡ R.matched ++ gathered_of v
  parts =
      ap (λ l. l ++ cond (opens (tape bytes) (length bytes)) [] (feed ∷ [])) R.parts ∙ append_assoc R.matched (gathered_of s) _
      ∙ ap (λ l. R.matched ++ l) (sym L.0)

  few : length (closed bytes) ≤ longest_recording + 1
  few = let f = R.few in omega (arith, length-append bytes (cond (opens (tape bytes) (length bytes)) [] (feed ∷ [])), short (opens (tape bytes) (length bytes)))
    where
      short : (b : Bool) → length (cond b [] (feed ∷ [])) ≤ 1
      short true = omega arith
      short false = omega arith

  pub closed_none : gathered_of v ≡ [] → Finds row w v.finder F (closed bytes) hs []
  closed_none none =
      subst (λ x. Finds row w x F (closed bytes) hs []) (sym E.finder)
      (subst (λ b. Finds row w s.finder F b hs []) (sym (parts ∙ ap (λ l. R.matched ++ l) none ∙ append-nil R.matched)) R.finds)

  pub closed_some : (u : Search B) (blocks : ℕ) (r : Result Bool Refusal) → MatchesGathered row w v u blocks r → 0 < length (gathered_of v) → need (weight F) ≤ blocks
      → (ws : List Place) × (r ≡ Ok (some ws)) × Finds row w u.finder F (closed bytes) hs ws
  closed_some u blocks r M some' enough =
      let l : length (closed bytes) ≡ length R.matched + length (gathered_of v) = ap length parts ∙ length-append R.matched (gathered_of v) in
      let fits = L.1 in
      let fw = few in
      let y = M.finder F R.matched hs (subst (λ x. Finds row w x F R.matched hs []) (sym E.finder) R.finds)
      (subst (λ x. Goes row w x F R.matched) (sym E.finder) R.goes) (omega arith) (omega arith) enough (omega arith) in
      (y.0, y.1, subst (λ b. Finds row w u.finder F b hs y.0) (sym parts) y.2)
