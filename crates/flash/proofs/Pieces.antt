-- Blocks and pieces of one recording. Assumes nothing.
use Rattle.std.proofs.Common.{◌≡◌, ℕ, zero, suc, ◌+◌, ◌-◌, ◌<◌, ◌≤◌, Bool, true, false, not, ◌&&◌, eqb, List, [], ◌∷◌, ◌++◌, map, length, get_or, take, drop, set, sym, refl, ap, ◌∙◌, subst, ap₂, arith, length-drop, get_or-drop, drop-drop, take-suc-set, drop-set-lt}
use Rattle.std.proofs.Math.Bool.{and-true}
use Rattle.std.proofs.Math.ListN.{get_or-append}
use Rattle.std.proofs.lemmas.Bool.{leb-true, le-leb}
use Rattle.std.proofs.lemmas.List.{get_or_past, append-nil, length-append, length-map, drop_at, take_all}
use Rattle.block.specs.Rows.{bit}
use Rattle.form.specs.Running.{places_from}
use Rattle.refusal.specs.declared.ends.End.{End}
use Rattle.marks.specs.declared.count.Lines.{Lines}
use Rattle.marks.specs.Counting.{end_of, FeedsAt, BeginsAt, Counts}
use Rattle.marks.specs.Listing.{ends_from, Lists}
use Rattle.marks.proofs.Marked.{places_agree, places_few}
use Rattle.flash.specs.declared.reader.Flashes.{Flashes}
use Rattle.flash.specs.Flashes.{lit_byte, line_feed, lit, lit_before, complete, line_at, column_at, between, flashes}
use Rattle.flash.specs.declared.runs.Marks.{Marks}
use Rattle.flash.specs.Marks.{before as before_lit}
use Rattle.flash.specs.Feeding.{Tells, Holds, Fed}
use Rattle.flash.proofs.Tape.{tape, to_tape, from_tape, between_places}
use Rattle.flash.proofs.Between.{between_joined, between_none, between_one}

-- ---- a block of bytes that stands in b at `base`

module _ (b bytes : List ℕ) (base : ℕ) (carry : Bool) (holds : Holds b base bytes) (led : carry ≡ lit_before b base) where
  lit_at : (i : ℕ) → i < length bytes → lit bytes i ≡ lit b (base + i)
  lit_at i l = ap (λ v. eqb v lit_byte) (sym (holds i l))

  pub before_at : (i : ℕ) → i ≤ length bytes → before_lit carry bytes i ≡ lit_before b (base + i)
  before_at zero l = let e : base ≡ base + 0 = omega arith in led ∙ ap (lit_before b) e
  before_at (suc i) l = let e : suc (base + i) ≡ base + suc i = omega arith in lit_at i (omega arith) ∙ ap (lit_before b) e

  pub complete_at : (marks : ℕ → Bool) → ((i : ℕ) → i < length bytes → marks i ≡ (before_lit carry bytes i && not (lit bytes i))) → (i : ℕ) → i < length bytes
      → marks i ≡ complete b (base + i)
  complete_at marks is i l = is i l ∙ ap₂ (λ x y. x && not y) (before_at i (omega arith)) (lit_at i l)

  pub feeds_at : (feeds : List Bool) → ((i : ℕ) → i < length bytes → bit feeds i ≡ eqb (get_or bytes i 0) line_feed) → FeedsAt (tape b) base (length bytes) feeds
  feeds_at feeds is i l = is i l ∙ ap (λ v. eqb v line_feed) (sym (holds i l))

-- ---- a piece's blocks, one after the other

-- the bytes that come next, of those that are left
part_holds : (b piece part later : List ℕ) (p at : ℕ) → at ≤ length piece → drop at piece ≡ part ++ later → Holds b p piece → Holds b (p + at) part
part_holds b piece part later p at h split holds i l =
    let long : length piece - at ≡ length part + length later = sym (length-drop at piece) ∙ ap length split ∙ length-append part later in
    let e : p + at + i ≡ p + (at + i) = omega arith in
    ap (λ q. get_or b q 0) e ∙ holds (at + i) (omega arith)
    ∙ sym (sym (get_or-append part later 0 i l) ∙ sym (ap (λ s. get_or s i 0) split) ∙ get_or-drop at piece i 0)

-- with these bytes left of the piece, from the reader `old` on
pub record Going (old now : Flashes) (piece left : List ℕ) (before after : List End) (count : ℕ) : Type 0 where
  pub within : length left ≤ length piece
  pub cut : left ≡ drop (length piece - length left) piece
  pub moved : now.here.position + length left ≡ old.here.position + length piece
  pub few : count + length left ≤ length piece
  pub tells : (b : List ℕ) → Tells old b → Holds b old.here.position piece → Tells now b
  pub ends : (b : List ℕ) → Tells old b → Holds b old.here.position piece → take count after ≡ between b old.here.position (length piece - length left)
  pub rest : drop count after ≡ drop count before

pub set_out : (old : Flashes) (piece : List ℕ) (ends : List End) → Going old old piece piece ends ends 0
unfolding between
set_out old piece ends =
    let none : length piece - length piece ≡ 0 = omega arith in
    record {
      within = omega arith;
      cut = sym (ap (λ n. drop n piece) none);
      moved = refl;
      few = omega arith;
      tells = λ b t h. t;
      ends = λ b t h. sym (ap (between b old.here.position) none);
      rest = refl;
    }

pub go_on : (old now next : Flashes) (piece left part later : List ℕ) (before after then : List End) (count more : ℕ) → left ≡ part ++ later
    → Going old now piece left before after count → Fed now next part after then count more → Going old next piece later before then more
go_on old now next piece left part later before after then count more split G F =
    record {
      within = let w = G.within in let l = long in omega arith;
      cut =
          sym (drop_at part later (length part) refl) ∙ ap (drop (length part)) (sym split ∙ G.cut) ∙ drop-drop (length part) at piece
          ∙ ap (λ n. drop n piece) forth;
      moved = let m = F.moved in let k = G.moved in let l = long in omega arith;
      few = let f = F.few in let k = G.few in let l = long in omega arith;
      tells = λ b t holds. F.tells b (G.tells b t holds) (stands b holds);
      ends = λ b t holds.
          F.ends b (G.tells b t holds) (stands b holds)
          ∙ ap (λ p. take count after ++ between b p (length part)) here
          ∙ ap (λ l. l ++ between b (old.here.position + at) (length part)) (G.ends b t holds) ∙ sym (between_joined b old.here.position at (length part))
          ∙ ap (between b old.here.position) forth;
      rest =
          let k = F.grown in
          let e : count + (more - count) ≡ more = omega arith in
          F.rest ∙ ap (λ m. drop m after) (sym e) ∙ sym (drop-drop (more - count) count after) ∙ ap (drop (more - count)) G.rest ∙ drop-drop (more - count) count before
          ∙ ap (λ m. drop m before) e;
    }
  where
    at : ℕ
    at = length piece - length left

    long : length left ≡ length part + length later
    long = ap length split ∙ length-append part later

    forth : at + length part ≡ length piece - length later
    forth = let w = G.within in let l = long in omega arith

    here : now.here.position ≡ old.here.position + at
    here = let m = G.moved in let w = G.within in omega arith

    stands : (b : List ℕ) → Holds b old.here.position piece → Holds b now.here.position part
    stands b holds = subst (λ p. Holds b p part) (sym here) (part_holds b piece part later old.here.position at (omega arith) (sym G.cut ∙ split) holds)

-- the whole piece
pub arrived : (old now : Flashes) (piece left : List ℕ) (before after : List End) (count : ℕ) → length left ≡ 0 → Going old now piece left before after count
    → Fed old now piece before after 0 count
arrived old now piece left before after count none G =
    let e : length piece - length left ≡ length piece = omega arith in
    record {
      moved = let m = G.moved in omega arith;
      grown = omega arith;
      few = let f = G.few in omega arith;
      tells = G.tells;
      ends = λ b t holds. G.ends b t holds ∙ ap (between b old.here.position) e;
      rest = G.rest;
    }

-- ---- one block, from its marks and its listing

module _ {B : Type 0} (row : B → List Bool) (old new : Flashes) (bytes : List ℕ) (m : Marks B) (first last : Lines B) (before after : List End) (count n : ℕ)
    (is : (i : ℕ) → i < length bytes → bit (row m.complete) i ≡ (before_lit old.lit bytes i && not (lit bytes i)))
    (feeds : (i : ℕ) → i < length bytes → bit (row m.feeds) i ≡ eqb (get_or bytes i 0) line_feed)
    (begun : BeginsAt row m.feeds old.here first) where
  module _ (b : List ℕ) where
    abbrev listing : List End
    listing = ends_from (tape b) (row m.complete) first.base (length bytes) first.at

    -- as marked places of the recording
    listing_is : listing ≡ map end_of (places_from (tape b) (λ q. bit (row m.complete) (q - old.here.position)) old.here.position (length bytes))
    listing_is =
        let e : old.here.position + 0 ≡ old.here.position = omega arith in
        let f : length bytes - 0 ≡ length bytes = omega arith in
        (λ i. ends_from (tape b) (row m.complete) (begun.base i) (length bytes) (begun.at i))
        ∙ λ i. map end_of (places_from (tape b) (λ q. bit (row m.complete) (q - old.here.position)) (e i) (f i))

    listing_few : length listing ≤ length bytes
    listing_few =
        let e : length listing ≡ length (places_from (tape b) (λ q. bit (row m.complete) (q - old.here.position)) old.here.position (length bytes)) =
        ap length listing_is ∙ length-map (places_from (tape b) (λ q. bit (row m.complete) (q - old.here.position)) old.here.position (length bytes)) end_of in
        let l = places_few (tape b) (λ q. bit (row m.complete) (q - old.here.position)) old.here.position (length bytes) in
        omega arith

    listing_ends : Holds b old.here.position bytes → old.lit ≡ lit_before b old.here.position → listing ≡ between b old.here.position (length bytes)
    listing_ends holds led =
        listing_is
        ∙ ap (map end_of)
        (places_agree (tape b) (tape b) (λ q. bit (row m.complete) (q - old.here.position)) (complete b) old.here.position (length bytes) (λ i h. refl)
        (λ q h l.
        let e : old.here.position + (q - old.here.position) ≡ q = omega arith in
        complete_at b bytes old.here.position old.lit holds led (bit (row m.complete)) is (q - old.here.position) (omega arith) ∙ ap (complete b) e))
        ∙ sym (between_places b old.here.position (length bytes))

    started : Tells old b → Holds b old.here.position bytes → Counts row (length bytes) (tape b) first
    started t holds =
        begun.counts (length bytes) (tape b) (feeds_at b bytes old.here.position old.lit holds t.lit (row m.feeds) feeds)
        (to_tape b old.here.line old.here.position t.line t.column)

  -- a table with room for an end at each byte takes all of them
  pub no_refusal : count + length bytes ≤ length before → (k : ℕ) → Lists row (length bytes) m.complete first last before after count k false → ⊥
  no_refusal room k L =
      let f = listing_few [] in
      let e : false ≡ true = L.fitted (tape []) ∙ le-leb (length (listing [])) (length before - count) (omega arith) in
      cc

  pub block_fed : Lists row (length bytes) m.complete first last before after count n true → m.lit ≡ before_lit old.lit bytes (length bytes)
      → new.lit ≡ m.lit → new.here.position ≡ last.base + last.at → new.here.line ≡ last.line
      → Fed old new bytes before after count n
  block_fed L out el ep en =
      record {
        moved = moved;
        grown = let r = L.reached (tape []) in omega arith;
        few = let r = L.reached (tape []) in let f = listing_few [] in omega arith;
        tells = λ b t holds.
            let C = L.counts (tape b) (started b t holds) in
            let k = from_tape b last.line (last.base + last.at) (record { line = C.line; start = C.start }) in
            record {
              lit = el ∙ out ∙ before_at b bytes old.here.position old.lit holds t.lit (length bytes) (omega arith) ∙ ap (lit_before b) (sym moved);
              line = ap (λ l. l.number) en ∙ k.0 ∙ ap (line_at b) (sym ep);
              column = ap₂ (λ s p. s + column_at b p) (ap (λ l. l.start) en) ep ∙ k.1 ∙ sym ep;
            };
        ends = λ b t holds.
            L.listed (tape b) (started b t holds)
            ∙ ap (λ l. take count before ++ l) (take_all (n - count) (listing b) (all b) ∙ listing_ends b holds t.lit);
        rest = L.rest;
      }
    where
      moved : new.here.position ≡ old.here.position + length bytes
      moved = let a = L.passed refl (let z = begun.at in omega arith) in let e = L.base in let f = begun.base in omega arith

      -- all of them fitted
      all : (b : List ℕ) → length (listing b) ≤ n - count
      all b =
          let f = leb-true (length (listing b)) (length before - count) (sym (L.fitted (tape b))) in
          let r = L.reached (tape b) in
          omega arith

-- ---- the recording's end

dark : (b : List ℕ) → not (lit b (length b)) ≡ true
dark b = ap (λ v. not (eqb v lit_byte)) (get_or_past b (length b) 0 (omega arith))

complete_end : (b : List ℕ) → complete b (length b) ≡ lit_before b (length b)
complete_end b = ap (λ x. lit_before b (length b) && x) (dark b) ∙ and-true (lit_before b (length b))

module _ (s : Flashes) (b : List ℕ) (t : Tells s b) (all : s.here.position ≡ length b) where
  was : s.lit ≡ complete b (length b)
  was = t.lit ∙ ap (lit_before b) all ∙ sym (complete_end b)

  pub close_none : s.lit ≡ false → [] ≡ between b (length b) 1
  close_none e = sym (between_none b (length b) 1 (λ i l. let q : length b ≡ length b + i = omega arith in ap (complete b) (sym q) ∙ sym was ∙ e))

  pub close_some : s.lit ≡ true → record { line = s.here.line.number; column = s.here.position - s.here.line.start; position = s.here.position } ∷ [] ≡ between b (length b) 1
  close_some e =
      let c : s.here.position - s.here.line.start ≡ column_at b (length b) = let k = t.column ∙ all in let j = ap (column_at b) all in omega (arith, k, j) in
      let l : s.here.line.number ≡ line_at b (length b) = t.line ∙ ap (line_at b) all in
      (λ z. record { line = l z; column = c z; position = all z } ∷ []) ∙ sym (between_one b (length b) (sym was ∙ e))

-- ---- the whole recording

whole : (b : List ℕ) → Holds b 0 b
whole b i l = let e : 0 + i ≡ i = omega arith in ap (λ q. get_or b q 0) e

module _ (old new : Flashes) (b : List ℕ) (before after : List End) (n : ℕ) (zero-start : old.here.position ≡ 0) (any : (b : List ℕ) → Tells old b) (F : Fed old new b before after 0 n) where
  stands : Holds b old.here.position b
  stands = subst (λ p. Holds b p b) (sym zero-start) (whole b)

  pub told : Tells new b
  told = F.tells b (any b) stands

  pub at_end : new.here.position ≡ length b
  at_end = let m = F.moved in omega arith

  so_far : take n after ≡ between b 0 (length b)
  so_far = F.ends b (any b) stands ∙ ap (λ p. between b p (length b)) zero-start

  cut : flashes b ≡ between b 0 (length b) ++ between b (length b) 1
  cut = let e : 0 + length b ≡ length b = omega arith in between_joined b 0 (length b) 1 ∙ ap (λ p. between b 0 (length b) ++ between b p 1) e

  pub list_none : [] ≡ between b (length b) 1 → take n after ≡ flashes b
  list_none e = so_far ∙ sym (append-nil (between b 0 (length b))) ∙ ap (λ l. between b 0 (length b) ++ l) e ∙ sym cut

  pub list_some : (last : End) → n < length after → last ∷ [] ≡ between b (length b) 1 → take (n + 1) (set after n last) ≡ flashes b
  list_some last fit e =
      let more : suc n ≡ n + 1 = omega arith in
      ap (λ q. take q (set after n last)) (sym more) ∙ take-suc-set after n last fit ∙ ap₂ ◌++◌ so_far e ∙ sym cut

  pub list_rest : (last : End) → drop (n + 1) (set after n last) ≡ drop (n + 1) before
  list_rest last = drop-set-lt (n + 1) after n last (omega arith) ∙ sym (drop-drop 1 n after) ∙ ap (drop 1) F.rest ∙ drop-drop 1 n before
