-- What a finder holds after each of its calls. Assumes nothing.
use Rattle.std.proofs.Common.{◌≡◌, ℕ, zero, suc, ◌+◌, ◌-◌, ◌*◌, ◌/◌, ◌%◌, ◌<◌, ◌≤◌, Bool, true, false, cond, not, ◌&&◌, eqb, ◌⊎◌, List, [], ◌∷◌, ◌++◌, length, get_or, set, is_some, Some, None, vec_items, Option, sym, refl, ap, ◌∙◌, subst, inl, inr, append_assoc, suc-mul, mul_comm, div-add-mod', arith, length-append, get_or-append-add}
use native.Mathlib.Decide.{dec_lt}
use native.Mathlib.Nat.{add-mod_right}
use lib.Arith.{digits_div}
use lib.ListN.{get_or-append}
use Rattle.std.proofs.lemmas.List.{append-nil, nil_from_length}
use Rattle.std.proofs.lemmas.Option.{none-some}
use Rattle.std.proofs.lemmas.Bool.{false≢true}
use Rattle.stream.specs.Tables.{rows}
use Rattle.stream.proofs.Tables.{rows_read, rows_here, rows_wide}
use Rattle.block.specs.Rows.{bit, tab}
use Rattle.block.specs.Calls.{widest, and_row, not_row, First}
use Rattle.block.proofs.Rows.{bit_at, bit_tab, tab_is}
use Rattle.limits.specs.Limits.{widest_kind, longest_recording}
use Rattle.form.specs.Form.{Form}
use Rattle.form.specs.Meaning.{feed}
use Rattle.form.specs.Lines.{Place}
use Rattle.form.specs.Positions.{line_at, start_at, place_at}
use Rattle.form.specs.Running.{EarlyEnds, places_from}
use Rattle.form.proofs.Running.{early_none, early_unique}
use Rattle.marks.specs.Among.{among}
use Rattle.marks.specs.Counting.{FeedsAt, Counts, Moves}
use Rattle.marks.specs.declared.count.Lines.{Lines}
use Rattle.marks.proofs.Marked.{places_none, places_first, places_among}
use Rattle.tree.specs.Stands.{Stands}
use Rattle.machine.specs.Matching.{Loaded, Keeps, Shows, feeds_of}
use Rattle.machine.specs.declared.loaded.Matcher.{Matcher}
use Rattle.machine.proofs.Ready.{kept_runs}
use Rattle.machine.proofs.Early.{shown_early}
use Rattle.history.specs.Rules.{last_block_of, waiting_row, some}
use Rattle.search.specs.Finding.{padded, Showing, Lined, ends_in, Blank, Finds}
use Rattle.search.specs.declared.finder.Finder.{Finder}

-- ---- tapes that agree before a position

module _ (t u : ℕ → ℕ) where
  line_agree : (p : ℕ) → ((i : ℕ) → i < p → t i ≡ u i) → line_at t p ≡ line_at u p
  line_agree zero h = refl
  line_agree (suc p) h =
      let e = h p (omega arith) in
      let f = line_agree p (λ i l. h i (omega arith)) in
      λ i. cond (eqb (e i) feed) (suc (f i)) (f i)

  start_agree : (p : ℕ) → ((i : ℕ) → i < p → t i ≡ u i) → start_at t p ≡ start_at u p
  start_agree zero h = refl
  start_agree (suc p) h =
      let e = h p (omega arith) in
      let f = start_agree p (λ i l. h i (omega arith)) in
      λ i. cond (eqb (e i) feed) (suc p) (f i)

-- ---- where the block matched last begins

block_at : (w k n : ℕ) → 0 < n → n ≤ w → w * ((k * w + n - 1) / w) ≡ k * w
block_at w k n pos fits =
    let e : k * w + n - 1 ≡ k * w + (n - 1) = omega arith in
    let less : n - 1 < w = omega arith in
    ap (λ q. w * (q / w)) e ∙ ap (λ q. w * q) (digits_div k less) ∙ mul_comm w k

module _ {B : Type 0} (row : B → List Bool) (w : ℕ) (eight : 8 ≤ w) where
  -- ---- whole blocks

  multiple : (n : ℕ) → n % w ≡ 0 → (k : ℕ) × (n ≡ k * w)
  multiple n e = (n / w, omega (arith, div-add-mod' n w))

  pub full_more : (m piece : List ℕ) → length m % w ≡ 0 → length piece ≡ w → length (m ++ piece) % w ≡ 0
  full_more m piece e f = ap (λ n. n % w) (length-append m piece ∙ ap (λ n. length m + n) f) ∙ add-mod_right (length m) w ∙ e

  -- the last block is the one behind the bytes before it
  pub last_block : (m piece : List ℕ) → length m % w ≡ 0 → 0 < length piece → length piece ≤ w → last_block_of w (m ++ piece) ≡ length m
  last_block m piece full some fits =
      let k = multiple (length m) full in
      ap (λ n. w * ((n - 1) / w)) (length-append m piece ∙ ap (λ n. n + length piece) k.1) ∙ block_at w k.0 (length piece) some fits ∙ sym k.1

  -- whole blocks end where the last of them does
  behind_last : (m : List ℕ) → length m % w ≡ 0 → 0 < length m → last_block_of w m + w ≡ length m
  behind_last m full p =
      let k = multiple (length m) full in
      elim k.0 as (λ j. length m ≡ j * w → last_block_of w m + w ≡ length m) [
        | zero ↦ λ e. absurd (omega (arith, e))
        | suc j ↦ λ e.
            let e' : length m ≡ j * w + w = e ∙ suc-mul j w in
            let l : last_block_of w m ≡ j * w = ap (λ n. w * ((n - 1) / w)) e' ∙ block_at w j w (omega arith) (omega arith) in
            omega (arith, l, e')
      ] k.1

  -- ---- one block more

  -- lines counted along a longer recording
  counts_on : (l : Lines B) (m piece : List ℕ) → l.base + w ≤ length m → l.at ≤ w → Counts row w (padded m) l → Counts row w (padded (m ++ piece)) l
  counts_on l m piece inside at C =
      let same : (i : ℕ) → i < length m → padded m i ≡ padded (m ++ piece) i = λ i h. sym (get_or-append m piece 0 i h) in
      record {
        feeds = λ i h. C.feeds i h ∙ ap (λ v. eqb v feed) (same (l.base + i) (omega arith));
        line = C.line ∙ line_agree (padded m) (padded (m ++ piece)) (l.base + l.at) (λ i h. same i (omega arith));
        start = C.start ∙ start_agree (padded m) (padded (m ++ piece)) (l.base + l.at) (λ i h. same i (omega arith));
      }

  feeds_at : (m piece : List ℕ) (feeds : B) → row feeds ≡ feeds_of w piece → (b : ℕ) → b ≡ length m → FeedsAt (padded (m ++ piece)) b w (row feeds)
  feeds_at m piece feeds e b eb i h =
      bit_at w (row feeds) _ e i h ∙ ap (λ v. eqb v feed) (sym (ap (λ q. padded (m ++ piece) (q + i)) eb ∙ get_or-append-add m piece i 0))

  module _ (x y : Finder B) (F : Form) (m piece : List ℕ) (hs : List Place) (X : Finds row w x F m hs []) (full : length m % w ≡ 0)
      (some : 0 < length piece) (fits : length piece ≤ w) (far : length m + length piece ≤ longest_recording + 1) (loaded : Loaded F y.matcher) (feeds : B)
      (ef : row feeds ≡ feeds_of w piece) (S : Shows F m piece (ends_in row w y)) (l : Lines B) (is : y.lines ≡ Some l)
      (lined : Lined row w feeds x.lines l) where
    size : length (m ++ piece) ≡ length m + length piece
    size = length-append m piece

    base : last_block_of w (m ++ piece) ≡ length m
    base = last_block m piece full some fits

    record Begins : Type 0 where
      counts : Counts row w (padded (m ++ piece)) l
      here : l.base ≡ length m
      start : l.at ≡ 0

    begins_first : length m ≡ 0 → Lined row w feeds None l → Begins
    begins_first none f =
        record {
          counts = f.1 (padded (m ++ piece)) (feeds_at m piece feeds ef 0 (sym none));
          here = f.0.base ∙ sym none;
          start = f.0.at;
        }

    begins_next : (j : Lines B) → Showing row w j (ends_in row w x) m [] → j.base + w ≡ length m → Lined row w feeds (Some j) l → Begins
    begins_next j s e (true, n) =
        record {
          counts =
              n.5 (padded (m ++ piece)) (counts_on j m piece (omega arith) s.within s.counts) (feeds_at m piece feeds ef (j.base + w) e);
          here = n.3 ∙ e;
          start = n.4;
        }
    begins_next j s e (false, (inl h, _)) = absurd (omega arith)
    begins_next j s e (false, (inr h, _)) = absurd (omega arith)

    begins : Begins
    begins =
        elim (dec_lt 0 (length m)) [
          | yes p ↦
              let s = X.shown p in
              begins_next s.0 s.2 (let b = s.2.base in omega (arith, b, behind_last m full p)) (subst (λ o. Lined row w feeds o l) s.1 lined)
          | no p ↦ let z : length m ≡ 0 = omega arith in begins_first z (subst (λ o. Lined row w feeds o l) (X.blank z).lines lined)
        ]

    abbrev pub waits : List Place
    waits = places_from (padded (m ++ piece)) (λ q. bit (ends_in row w y) (q - length m)) (length m) w

    pub more : Finds row w y F (m ++ piece) hs waits
    more =
        let b = begins in
        let early : EarlyEnds m F hs = subst (EarlyEnds m F) (append-nil hs) X.early in
        record {
          loaded = loaded;
          narrow = X.narrow;
          few = omega (arith, size);
          early = shown_early F m piece (ends_in row w y) S hs early w fits;
          blank = λ z. absurd (omega (arith, size));
          shown = λ p. (
            l,
            is,
            record {
              counts = b.counts;
              base = b.here ∙ sym base;
              within = omega (arith, b.start);
              drawn = λ i h. absurd (omega (arith, b.start));
              waits = ap (λ b. places_from (padded (m ++ piece)) (λ q. bit (ends_in row w y) (q - b)) b w) (sym b.here);
            },
          );
        }

  -- ---- the start of a recording

  pub fresh : (x : Finder B) (F : Form) → Loaded F x.matcher → w ≤ widest_kind → Blank row w x → Finds row w x F [] [] []
  fresh x F loaded narrow b =
      record {
        loaded = loaded;
        narrow = narrow;
        few = omega arith;
        early = early_none F;
        blank = λ _. b;
        shown = λ p. absurd (omega arith);
      }

  -- ---- the block of ends

  pub ends_read : (x : Finder B) (b : B) → b ≡ get_or (vec_items x.ends) 0 b → ends_in row w x ≡ row b
  ends_read x b e = rows_read row (vec_items x.ends) 0 b (omega arith) e

  pub ends_written : (x : Finder B) (b : B) → rows row (set (vec_items x.ends) 0 b) 0 ≡ row b
  ends_written x b = rows_here row (vec_items x.ends) 0 b (omega arith)

  pub ends_wide : ((b : B) → length (row b) ≡ w) → (x : Finder B) → length (ends_in row w x) ≡ w
  ends_wide wide x = rows_wide row w wide (vec_items x.ends) 0 (omega arith)

  -- ---- what waits

  no_ends : (hs ws : List Place) → (hs ++ ws) ≡ [] → ws ≡ []
  no_ends [] ws e = e
  no_ends (h ∷ hs) ws e = let z : ◌≡◌ {A = ℕ} 0 1 = cc in absurd (omega arith)

  module _ (x : Finder B) (F : Form) (m : List ℕ) (hs ws : List Place) (X : Finds row w x F m hs ws) where
    -- before the first block none does
    pub none_yet : length m ≡ 0 → ws ≡ []
    none_yet e =
        let early = subst (λ b. EarlyEnds b F (hs ++ ws)) (nil_from_length m e) X.early in
        no_ends hs ws (early_unique [] F (hs ++ ws) [] early (early_none F))

    zeros : length m ≡ 0 → (i : ℕ) → i < w → bit (ends_in row w x) i ≡ false
    zeros e i h = bit_at w (ends_in row w x) _ (X.blank e).none i h

    pub dry : ((i : ℕ) → i < w → bit (ends_in row w x) i ≡ false) → ws ≡ []
    dry none =
        elim (dec_lt 0 (length m)) [
          | yes p ↦ let s = X.shown p in s.2.waits ∙ places_none (padded m) (ends_in row w x) s.0.base w none
          | no p ↦ none_yet (omega arith)
        ]

    pub held : (p : ℕ) → p < w → bit (ends_in row w x) p ≡ true → 0 < length m
    held p h e =
        elim (dec_lt 0 (length m)) [
          | yes l ↦ l
          | no l ↦ absurd (false≢true (sym (zeros (omega arith) p h) ∙ e))
        ]

    -- where a place holds an end, the lines of the block are counted
    module _ (p : ℕ) (inside : p < w) (one : bit (ends_in row w x) p ≡ true) where
      pub never_unlined : x.lines ≡ None → ⊥
      never_unlined e = let s = X.shown (held p inside one) in none-some s.0 (sym e ∙ s.1)

      pub lined_as : (l : Lines B) → x.lines ≡ Some l → Showing row w l (ends_in row w x) m ws
      lined_as l e =
          let s = X.shown (held p inside one) in
          let same : s.0 ≡ l = let q = s.1 in cc in
          subst (λ (j : Lines B). Showing row w j (ends_in row w x) m ws) same s.2

      -- and it can be asked for
      pub never_past : (l : Lines B) → x.lines ≡ Some l → (p < l.at) ⊎ (w ≤ p) → ⊥
      never_past l e (inl h) = false≢true (sym ((lined_as l e).drawn p h) ∙ one)
      never_past l e (inr h) = omega arith

    -- some end waits just where the block has a one
    pub waits_some : w ≤ widest → (o : Option ℕ) → First w (ends_in row w x) 0 o → is_some o ≡ some ws
    waits_some seen None h = ap some (sym (dry (λ i l. h i (omega arith) (omega arith))))
    waits_some seen (Some p) h =
        let inside : p < w = omega arith in
        let s = X.shown (held p inside h.2) in
        let rest : List Bool = tab w (λ i. bit (ends_in row w x) i && not (eqb i p)) in
        ap some
        (sym (s.2.waits
        ∙ places_first (padded m) (ends_in row w x) rest s.0.base w p inside h.2 (λ i l. h.3 i (omega arith) l)
        (λ i l. bit_tab w _ i l)))

    pub waiting_row_lem : length (ends_in row w x) ≡ w → ends_in row w x ≡ waiting_row w m ws
    waiting_row_lem wide =
        tab_is (ends_in row w x) w _ wide
        (λ i h.
        elim (dec_lt 0 (length m)) [
          | yes p ↦
              let s = X.shown p in
              let b = s.0.base in
              let at : b + i - b ≡ i = omega arith in
              sym (ap (λ l. among l (last_block_of w m + i)) s.2.waits ∙ ap (λ q. among (places_from (padded m) (λ q. bit (ends_in row w x) (q - b)) b w) (q + i)) (sym s.2.base)
              ∙ places_among (padded m) (λ q. bit (ends_in row w x) (q - b)) b w (b + i) (omega arith) (omega arith) ∙ ap (bit (ends_in row w x)) at)
          | no p ↦ zeros (omega arith) i h ∙ sym (ap (λ l. among l (last_block_of w m + i)) (none_yet (omega arith)))
        ])

    -- the row without one place
    pub cleared_bits : (p : ℕ) (gone kept after : List Bool) → gone ≡ tab w (λ i. eqb i p) → kept ≡ not_row w gone → after ≡ and_row w (ends_in row w x) kept
        → (i : ℕ) → i < w → bit after i ≡ (bit (ends_in row w x) i && not (eqb i p))
    cleared_bits p gone kept after eg ek ea i h =
        bit_at w after _ ea i h ∙ ap (λ b. bit (ends_in row w x) i && b) (bit_at w kept _ ek i h ∙ ap not (bit_at w gone _ eg i h))

    -- the place of the first one
    module _ (after : List Bool) (p : ℕ) (inside : p < w) (one : bit (ends_in row w x) p ≡ true) (least : (i : ℕ) → i < p → bit (ends_in row w x) i ≡ false)
        (cleared : (i : ℕ) → i < w → bit after i ≡ (bit (ends_in row w x) i && not (eqb i p))) (l : Lines B) (lined : x.lines ≡ Some l) where
      some_bytes : 0 < length m
      some_bytes = held p inside one

      s : Showing row w l (ends_in row w x) m ws
      s = lined_as p inside one l lined

      abbrev pub drawn : Place
      drawn = place_at (padded m) (l.base + p)

      abbrev pub left : List Place
      left = places_from (padded m) (λ q. bit after (q - l.base)) l.base w

      pub first : ws ≡ drawn ∷ left
      first = s.waits ∙ places_first (padded m) (ends_in row w x) after l.base w p inside one least cleared

      pub handed : (y : Finder B) (k : Lines B) → ends_in row w y ≡ after → y.matcher ≡ x.matcher → y.lines ≡ Some k → Moves row w l k p
          → Finds row w y F m (hs ++ drawn ∷ []) left
      handed y k ends matcher lines moves =
          record {
            loaded = subst (Loaded F) (sym matcher) X.loaded;
            narrow = X.narrow;
            few = X.few;
            early = subst (EarlyEnds m F) (ap (λ l. hs ++ l) first ∙ sym (append_assoc hs (drawn ∷ []) left)) X.early;
            blank = λ z. absurd (let l = some_bytes in omega arith);
            shown = λ _. (
              k,
              lines,
              record {
                counts = moves.counts (padded m) s.counts;
                base = moves.base ∙ s.base;
                within = omega arith;
                drawn = λ i h.
                    ap (λ r. bit r i) ends ∙ cleared i (omega arith) ∙ ap (λ b. b && not (eqb i p)) (least i (omega arith));
                waits = λ i. places_from (padded m) (λ q. bit (sym ends i) (q - sym moves.base i)) (sym moves.base i) w;
              },
            );
          }

pub kept_loaded : (F : Form) (a b : Matcher) → Keeps a b → Loaded F a → Loaded F b
kept_loaded F a b K L =
    record {
      runs = kept_runs F a b K L.runs;
      stands = subst (λ i. Stands b.tree F i) (sym K.root) (subst (λ t. Stands t F a.root) (sym K.tree) L.stands);
      weighs = K.weight ∙ L.weighs;
    }
