-- The ends that a block shows come on behind those so far. Assumes nothing.
use Rattle.std.proofs.Common.{◌≡◌, ℕ, ◌+◌, ◌-◌, ◌<◌, ◌≤◌, Bool, T, ◌↔◌, List, [], ◌++◌, length, sym, refl, ap, ◌∙◌, subst, arith, length-append}
use Rattle.std.proofs.lemmas.List.{append-nil}
use Rattle.block.specs.Rows.{bit}
use Rattle.form.specs.Form.{Form}
use Rattle.form.specs.Lines.{Place}
use Rattle.form.specs.Positions.{tape, Ending, place_at}
use Rattle.form.specs.Running.{EarlyEnds, places_from}
use Rattle.form.proofs.Running.{early_next, early_positions}
use Rattle.form.proofs.Tapes.{place_agree}
use Rattle.marks.proofs.Marked.{places_joined, places_quiet}
use Rattle.machine.specs.Matching.{Shows}
use Rattle.machine.proofs.Ready.{padded, padded_holds}

module _ (F : Form) (bytes piece : List ℕ) (marks : List Bool) (S : Shows F bytes piece marks) where
  abbrev b : ℕ
  b = length bytes

  abbrev t : ℕ → ℕ
  t = padded (bytes ++ piece)

  -- a mark is where a match ends
  marked : (p : ℕ) → b ≤ p → p < b + length piece → T (bit marks (p - b)) ↔ Ending t F p
  marked p from to =
      let n = length-append bytes piece in
      let holds = padded_holds (bytes ++ piece) in
      let e : Place = place_at t p in
      let eq = early_positions (bytes ++ piece) [] F t holds e (omega arith) in
      let here = place_agree t (tape (bytes ++ piece)) p (λ i l. holds i (omega arith)) p (omega arith) in
      let s = S.ends [] e from to in (
        λ m. (eq.0 (s.1 (m, here))).0,
        λ h. (s.0 (eq.1 (h, refl))).0,
      )

  -- of a block of w places
  pub shown_early : (es : List Place) → EarlyEnds bytes F es → (w : ℕ) → length piece ≤ w
      → EarlyEnds (bytes ++ piece) F (es ++ places_from t (λ q. bit marks (q - b)) b w)
  shown_early es early w fits =
      let mark : ℕ → Bool = λ q. bit marks (q - b) in
      let more = early_next bytes piece F es t mark early (padded_holds (bytes ++ piece)) marked in
      let n : ℕ = length piece in
      let size : n + (w - n) ≡ w = omega arith in
      let quiet : places_from t mark (b + n) (w - n) ≡ [] =
      places_quiet t mark (b + n) (w - n) (λ i l. let e : b + n + i - b ≡ n + i = omega arith in ap (bit marks) e ∙ S.behind (n + i) (omega arith)) in
      let all : places_from t mark b w ≡ places_from t mark b n =
      ap (places_from t mark b) (sym size) ∙ places_joined t mark b n (w - n) ∙ ap (λ l. places_from t mark b n ++ l) quiet ∙ append-nil (places_from t mark b n) in
      subst (λ l. EarlyEnds (bytes ++ piece) F (es ++ l)) (sym all) more
