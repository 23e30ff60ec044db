-- What each arm of a step leaves. Assumes nothing.
use Rattle.std.proofs.Common.{◌≡◌, ℕ, ◌<◌, Bool, false, not, ◌||◌, List, length, get_or, set, sym, ap, ◌∙◌, subst}
use Rattle.block.specs.Calls.{or_row}
use Rattle.stream.specs.MatchStar.{star_row, star_out}
use Rattle.stream.specs.Tables.{rows}
use Rattle.stream.proofs.Tables.{rows_read}
use Rattle.theory.specs.Block.{step_row, step_out}
use Rattle.program.specs.declared.Step.{Step}
use Rattle.program.specs.declared.Step.TheVariants.{Run, More, Save, Or, Grow}
use Rattle.program.specs.Machine.{Machine, put, same, does}
use Rattle.program.specs.Compile.{Within}
use Rattle.machine.specs.Holding.{holding}
use Rattle.machine.proofs.Writes.{rows_set}

module _ {B : Type 0} (row : B → List Bool) (w : ℕ) (ins : ℕ → Bool) (marks : B) (blocks : List B) (carries : ℕ → Bool) (changed : Bool) (few : ℕ)
    (step : Step) (range : (s : ℕ) × (e : ℕ) × Within (length blocks) few s e step) where
  abbrev x : Machine
  x = holding row marks blocks carries changed

  abbrev After : Machine → Type 0
  After y = y ≡ does w ins step x

  arm : (s : Step) (y : Machine) → step ≡ s → y ≡ does w ins s x → After y
  arm s y is e = e ∙ ap (λ z. does w ins z x) (sym is)

  at : (s : Step) → step ≡ s → Within (length blocks) few range.0 range.1 s
  at s is = subst (Within (length blocks) few range.0 range.1) is range.2

  -- the steps that take places of a class: the marks and the carry are functions of its row
  module _ (c k : ℕ) (b : B) (eb : b ≡ get_or blocks c b) (r : B) (next : ℕ → Bool) where
    taken : c < length blocks → (m : List Bool → List Bool) (o : List Bool → Bool) → row r ≡ m (row b)
        → next ≡ put carries k (o (row b))
        → holding row r blocks next changed
        ≡ record { marks = m (rows row blocks c); rows = rows row blocks; carries = put carries k (o (rows row blocks c)); changed = changed }
    taken hc m o er en =
        let s = sym (rows_read row blocks c b hc eb) in
        λ j. record {
          marks = (er ∙ ap m s) j;
          rows = rows row blocks;
          carries = (en ∙ ap (λ z. put carries k (o z)) s) j;
          changed = changed;
        }

    pub run_arm : step ≡ Run c k → row r ≡ star_row w (row marks) (row b) (ins k)
        → next ≡ put carries k (star_out w (row marks) (row b) (ins k))
        → After (holding row r blocks next changed)
    run_arm is er en =
        let h = at (Run c k) is in
        arm (Run c k) _ is (taken h.0 (λ z. star_row w (row marks) z (ins k)) (λ z. star_out w (row marks) z (ins k)) er en)

    pub more_arm : step ≡ More c k → row r ≡ star_row w (step_row w (row b) (ins k) (row marks)) (row b) false
        → next ≡ put carries k (step_out w (row b) (row marks) || star_out w (step_row w (row b) (ins k) (row marks)) (row b) false)
        → After (holding row r blocks next changed)
    more_arm is er en =
        let h = at (More c k) is in
        arm (More c k) _ is
        (taken h.0 (λ z. star_row w (step_row w z (ins k) (row marks)) z false)
        (λ z. step_out w z (row marks) || star_out w (step_row w z (ins k) (row marks)) z false) er en)

  pub save_arm : (r : ℕ) (new : List B) → new ≡ set blocks r marks → step ≡ Save r → After (holding row marks new carries changed)
  save_arm r new e is =
      arm (Save r) _ is
      (λ j. record {
        marks = row marks;
        rows = (ap (rows row) e ∙ rows_set row blocks r marks (at (Save r) is).0) j;
        carries = carries;
        changed = changed;
      })

  module _ (r : ℕ) (b : B) (eb : b ≡ get_or blocks r b) where
    module _ (n : B) (en : row n ≡ or_row w (row b) (row marks)) (new : List B) (e : new ≡ set blocks r n) where
      -- the marks added to a row
      joined : r < length blocks → rows row new ≡ put (rows row blocks) r (or_row w (rows row blocks r) (row marks))
      joined h =
          ap (rows row) e
          ∙ (rows_set row blocks r n h
          ∙ ap (put (rows row blocks) r) (en ∙ ap (λ z. or_row w z (row marks)) (sym (rows_read row blocks r b h eb))))

      pub or_arm : step ≡ Or r → After (holding row marks new carries changed)
      or_arm is =
          arm (Or r) _ is
          (λ j. record { marks = row marks; rows = joined (at (Or r) is) j; carries = carries; changed = changed })

      pub grow_arm : step ≡ Grow r → (note : Bool) → note ≡ (changed || not (same (or_row w (row b) (row marks)) (row b)))
          → After (holding row marks new carries note)
      grow_arm is note f =
          let h = (at (Grow r) is).0 in
          arm (Grow r) _ is
          (λ j. record {
            marks = row marks;
            rows = joined h j;
            carries = carries;
            changed = (f ∙ ap (λ z. changed || not (same (or_row w z (row marks)) z)) (sym (rows_read row blocks r b h eb))) j;
          })
