-- A block with its rows is ready, and what it then shows. Assumes nothing.
use Rattle.std.proofs.Common.{◌≡◌, ℕ, zero, suc, ◌+◌, ◌-◌, ◌<◌, ◌≤◌, Bool, true, false, ◌&&◌, T, eqb, ltb, List, [], ◌∷◌, ◌++◌, length, get_or, sym, refl, ap, ◌∙◌, subst, arith, length-append, get_or-append-add}
use native.Mathlib.Decide.{dec_lt}
use lib.ListN.{get_or-append}
use Rattle.std.proofs.lemmas.Bool.{lt-ltb, le-ltb}
use Rattle.std.proofs.lemmas.List.{get_or_default}
use Rattle.block.specs.Rows.{bit, tab}
use Rattle.block.specs.Calls.{and_row, enters}
use Rattle.block.proofs.Rows.{bit_at, bit_past, tab_ext}
use Rattle.form.specs.Form.{Form}
use Rattle.form.specs.Meaning.{feed}
use Rattle.form.specs.Positions.{opens, tape, Holds}
use Rattle.form.proofs.Running.{early_positions}
use Rattle.form.proofs.Tapes.{place_agree}
use Rattle.stream.specs.Sets.{has}
use Rattle.stream.specs.declared.set.ByteSet.{ByteSet}
use Rattle.theory.specs.Block.{class_row, start_row, feed_row}
use Rattle.theory.specs.Whole.{Carried}
use Rattle.theory.specs.Written.{nothing, classes, streams, written}
use Rattle.program.specs.Compile.{classes_at, stars_at}
use Rattle.program.specs.Matched.{Standing}
use Rattle.program.specs.Sizes.{class_count}
use Rattle.program.proofs.Matched.{first_standing, line_starts}
use Rattle.program.proofs.Passing.{carries_same}
use Rattle.classes.specs.Numbered.{Are}
use Rattle.classes.proofs.Adding.{are_long}
use Rattle.emit.specs.Whole.{CompiledFrom, program_of, table_of}
use Rattle.machine.specs.Blocks.{Ready, Found}
use Rattle.machine.specs.Carrying.{entering}
use Rattle.machine.specs.Matching.{Runs, Keeps, Matched, Shows, MatchesNext, feeds_of}
use Rattle.machine.specs.Ruling.{Rules, no_set}
use Rattle.machine.specs.declared.loaded.Matcher.{Matcher}

-- ---- classes by number

are_at : (sets : List ByteSet) (cs : List (ℕ → Bool)) → Are sets cs → (c : ℕ) → c < length cs → (v : ℕ) → v < 256
    → has (get_or sets c no_set) v ≡ get_or cs c nothing v
are_at [] [] h c l v b = absurd (omega arith)
are_at [] (f ∷ cs) h c l v b = absurd h
are_at (s ∷ sets) [] h c l v b = absurd h
are_at (s ∷ sets) (f ∷ cs) h zero l v b = h.0 v b
are_at (s ∷ sets) (f ∷ cs) h (suc c) l v b = are_at sets cs h.1 c (omega arith) v b

-- ---- tapes that hold bytes and a piece behind them

-- with zeros behind the last byte
abbrev pub padded : List ℕ → ℕ → ℕ
padded bytes p = get_or bytes p 0

pub padded_holds : (bytes : List ℕ) → Holds (padded bytes) bytes
padded_holds bytes i l = get_or_default bytes i 0 feed l

pub holds_front : (t : ℕ → ℕ) (bytes piece : List ℕ) → Holds t (bytes ++ piece) → Holds t bytes
holds_front t bytes piece h i l = h i (omega (arith, length-append bytes piece)) ∙ get_or-append bytes piece feed i l

-- the tape goes on with the places of a block that holds the piece
abbrev Goes : (ℕ → ℕ) → ℕ → ℕ → List ℕ → Type 0
Goes t b w piece = (i : ℕ) → i < w → t (b + i) ≡ get_or piece i 0

padded_goes : (bytes piece : List ℕ) (w : ℕ) → Goes (padded (bytes ++ piece)) (length bytes) w piece
padded_goes bytes piece w i l = get_or-append-add bytes piece i 0

full_goes : (t : ℕ → ℕ) (bytes piece : List ℕ) → Holds t (bytes ++ piece) → Goes t (length bytes) (length piece) piece
full_goes t bytes piece h i l =
    h (length bytes + i) (omega (arith, length-append bytes piece)) ∙ get_or-append-add bytes piece i feed ∙ get_or_default piece i feed 0 l

opens_agree : (t u : ℕ → ℕ) (p : ℕ) → ((i : ℕ) → i < p → t i ≡ u i) → opens t p ≡ opens u p
opens_agree t u zero h = refl
opens_agree t u (suc p) h = ap (λ v. eqb v feed) (h p (omega arith))

-- ---- a block

module _ (F : Form) (bytes piece : List ℕ) (w : ℕ) (pos : 0 < w) (m : Matcher) (M : Matched F bytes m) (byte : (i : ℕ) → get_or piece i 0 < 256)
    (rows : ℕ → List Bool) (R : Rules w piece m.starts (table_of m.compiled) rows) where
  abbrev b : ℕ
  b = length bytes

  module _ (t : ℕ → ℕ) (holds : Holds t bytes) (goes : Goes t b w piece) where
    feed_row_lem : feed_row (streams F t) b w ≡ feeds_of w piece
    feed_row_lem = tab_ext w _ _ (λ i l. ap (λ v. eqb v feed) (goes i l))

    start_bit : m.starts ≡ opens t b
    start_bit = M.starts ∙ opens_agree (tape bytes) t b (λ i l. sym (holds i l))

    start_row_lem : start_row (streams F t) b w ≡ tab w (enters m.starts (bit (feeds_of w piece)))
    start_row_lem =
        (line_starts F t b w pos).moved ∙ (λ i. tab w (enters (sym start_bit i) (bit (feed_row_lem i))))

    class_row_lem : (c : ℕ) → c < class_count F → rows (classes_at + c) ≡ class_row (streams F t) b w c
    class_row_lem c l =
        let A = M.runs.compiled.sets in
        let n = are_long (table_of m.compiled) (classes F) A in
        R.classes c (omega arith)
        ∙ tab_ext w _ _ (λ i k. are_at (table_of m.compiled) (classes F) A c l (get_or piece i 0) (byte i) ∙ ap (get_or (classes F) c nothing) (sym (goes i k)))

    pub ready : Ready F t b w (program_of m.compiled) (stars_at m.sizes.classes) (stars_at m.sizes.classes + m.sizes.stars) rows (entering m.carries)
    ready =
        let C = M.runs.compiled in
        record {
          nested = M.runs.nested;
          is = C.program;
          first = ap stars_at C.classes;
          last = ap (λ s. stars_at m.sizes.classes + s) C.stars;
          ruled = record { classes = class_row_lem; starts = R.starts ∙ sym start_row_lem; feeds = R.feeds ∙ sym feed_row_lem };
          standing = M.carries t holds;
        }

  module _ (marks : List Bool) (outs : ℕ → Bool)
      (found : (t : ℕ → ℕ) → Ready F t b w (program_of m.compiled) (stars_at m.sizes.classes) (stars_at m.sizes.classes + m.sizes.stars) rows (entering m.carries) → Found F t b w marks outs)
      (fits : length piece ≤ w) where
    abbrev t : ℕ → ℕ
    t = padded (bytes ++ piece)

    holds : Holds t (bytes ++ piece)
    holds = padded_holds (bytes ++ piece)

    F₀ : Found F t b w marks outs
    F₀ = found t (ready t (holds_front t bytes piece holds) (padded_goes bytes piece w))

    -- any row that has the marks of the piece's places, and no others
    pub shows : (row : List Bool) → ((i : ℕ) → i < length piece → bit row i ≡ bit marks i) → ((i : ℕ) → length piece ≤ i → bit row i ≡ false) → Shows F bytes piece row
    shows row same none =
        record {
          ends =
              λ rest e from to.
              let p : ℕ = e.position in
              let n = length-append bytes piece in
              let eq = early_positions (bytes ++ piece) rest F t holds e (omega arith) in
              let there = place_agree t (tape (bytes ++ piece)) p (λ i l. holds i (omega arith)) p (omega arith) in
              let mark = F₀.ends p from (omega arith) in
              let here : bit row (p - b) ≡ bit marks (p - b) = same (p - b) (omega arith) in (
                λ h. let y = eq.0 h in (subst T (sym here) (mark.1 y.0), y.1 ∙ there),
                λ y. eq.1 (mark.0 (subst T here y.0), y.1 ∙ sym there),
              );
          behind = none;
        }

    -- a full block
    pub on : length piece ≡ w → (n : Matcher) → Runs F n → (behind : Bool) → behind ≡ bit (feeds_of w piece) (w - 1)
        → ((k : ℕ) → k < n.sizes.carries → entering n.carries k ≡ outs k) → n.starts ≡ behind → Matched F (bytes ++ piece) n
    on full n runs behind eb ei es =
        let size : length (bytes ++ piece) ≡ b + w = length-append bytes piece ∙ ap (λ k. b + k) full in
        record {
          runs = runs;
          carries =
              λ u hu.
              let front = holds_front u bytes piece hu in
              let goes : Goes u b w piece = subst (λ k. Goes u b k piece) full (full_goes u bytes piece hu) in
              let s = (found u (ready u front goes)).standing in
              let few = runs.compiled.carries in
              let same = carries_same (written F) 0 outs (entering n.carries) (λ i _ l. sym (ei i (omega arith))) in
              subst (λ k. Standing F u k (entering n.carries)) (sym size) (subst (Carried (streams F u) (b + w) (written F)) same s);
          starts =
              let tp = tape (bytes ++ piece) in
              let goes : Goes tp b w piece = subst (λ k. Goes tp b k piece) full (full_goes tp bytes piece (λ i l. refl)) in
              let front : Holds tp bytes = holds_front tp bytes piece (λ i l. refl) in
              es ∙ eb ∙ ap (λ r. bit r (w - 1)) (sym (feed_row_lem tp front goes)) ∙ sym (line_starts F tp b w pos).fallen ∙ ap (opens tp) (sym size);
        }

-- ---- the start of a recording

pub fresh : (F : Form) (n : Matcher) → Runs F n → ((k : ℕ) → k < n.sizes.carries → entering n.carries k ≡ false) → n.starts ≡ true → Matched F [] n
fresh F n runs none s =
    let few = runs.compiled.carries in
    let same = carries_same (written F) 0 (λ k. false) (entering n.carries) (λ i _ l. sym (none i (omega arith))) in
    record {
      runs = runs;
      carries = λ t h. subst (Carried (streams F t) 0 (written F)) same (first_standing F t);
      starts = s;
    }

-- ---- a block, whatever was matched before

pub kept_runs : (F : Form) (m n : Matcher) → Keeps m n → Runs F m → Runs F n
kept_runs F m n K R =
    record {
      compiled = subst (λ s. CompiledFrom F n.compiled s) (sym K.sizes) (subst (λ x. CompiledFrom F x m.sizes) (sym K.compiled) R.compiled);
      nested = R.nested;
    }

module _ (piece : List ℕ) (w : ℕ) (pos : 0 < w) (m : Matcher) (byte : (i : ℕ) → get_or piece i 0 < 256) (rows : ℕ → List Bool)
    (R : Rules w piece m.starts (table_of m.compiled) rows) (marks : List Bool) (wide : length marks ≡ w) (outs : ℕ → Bool)
    (found : (F : Form) (t : ℕ → ℕ) (b : ℕ) → Ready F t b w (program_of m.compiled) (stars_at m.sizes.classes) (stars_at m.sizes.classes + m.sizes.stars) rows (entering m.carries) → Found F t b w marks outs)
  where
    pub matches_full : length piece ≡ w → (n : Matcher) → Keeps m n → (behind : Bool) → behind ≡ bit (feeds_of w piece) (w - 1)
        → ((k : ℕ) → k < n.sizes.carries → entering n.carries k ≡ outs k) → n.starts ≡ behind → MatchesNext m n piece w marks
    matches_full full n K behind eb ei es =
        record {
          shows =
              λ F bytes M.
              shows F bytes piece w pos m M byte rows R marks outs (λ t. found F t (length bytes)) (omega arith) marks (λ i l. refl)
              (λ i l. bit_past marks i (omega arith));
          full =
              λ e F bytes M.
              on F bytes piece w pos m M byte rows R marks outs (λ t. found F t (length bytes)) (omega arith) full n (kept_runs F m n K M.runs) behind eb ei es;
          last = λ l. absurd (omega arith);
        }

    masked : (row mask : List Bool) → row ≡ and_row w marks mask → mask ≡ tab w (λ i. ltb i (length piece)) → (i : ℕ) → i < w
        → bit row i ≡ (bit marks i && ltb i (length piece))
    masked row mask er em i l = bit_at w row _ er i l ∙ ap (λ x. bit marks i && x) (bit_at w mask _ em i l)

    and_true : (x y : Bool) → y ≡ true → (x && y) ≡ x
    and_true true y e = e
    and_true false y e = refl

    and_false : (x y : Bool) → y ≡ false → (x && y) ≡ false
    and_false true y e = e
    and_false false y e = refl

    pub matches_last : length piece < w → (n : Matcher) → ((F : Form) → Runs F m → Matched F [] n) → (row mask : List Bool) → length row ≡ w
        → row ≡ and_row w marks mask → mask ≡ tab w (λ i. ltb i (length piece)) → MatchesNext m n piece w row
    matches_last short n fresh row mask long er em =
        record {
          shows =
              λ F bytes M.
              shows F bytes piece w pos m M byte rows R marks outs (λ t. found F t (length bytes)) (omega arith) row
              (λ i l. masked row mask er em i (omega arith) ∙ and_true (bit marks i) _ (lt-ltb i (length piece) l))
              (λ i l.
              elim (dec_lt i w) [
                | yes u ↦ masked row mask er em i u ∙ and_false (bit marks i) _ (le-ltb i (length piece) l)
                | no u ↦ bit_past row i (omega arith)
              ]);
          full = λ e. absurd (omega arith);
          last = λ l F bytes M. fresh F M.runs;
        }
