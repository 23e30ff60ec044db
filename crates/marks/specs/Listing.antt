-- The ends of one block, listed in a table. Assumes nothing.
use Rattle.std.specs.Prelude.{◌≡◌, ℕ, ◌+◌, ◌-◌, ◌≤◌, min, max, Bool, true, false, List, Ok, Err, Result, ◌++◌, map, length, take, drop, nat_le}
use Rattle.block.specs.Rows.{bit}
use Rattle.form.specs.Running.{places_from}
use Rattle.refusal.specs.declared.Refusal.{Refusal}
use Rattle.refusal.specs.declared.Refusal.TheVariants.{TableTooShort}
use Rattle.refusal.specs.declared.ends.End.{End}
use Rattle.marks.specs.declared.count.Lines.{Lines}
use Rattle.marks.specs.Counting.{end_of, Counts}

-- the ends at the ones of a row from the place `at` on, of w places, of which the first stands at `base`
abbrev pub ends_from : (ℕ → ℕ) → List Bool → (base w at : ℕ) → List End
ends_from t bits base w at = map end_of (places_from t (λ q. bit bits (q - base)) (base + at) (w - at))

-- What a listing of w places leaves: as many ends as fit stand behind the first `count`, and the lines stand where the ends
-- go on, behind the last place where all of them fit. How many there are depends on no tape.
pub record Lists {B : Type 0} (row : B → List Bool) (w : ℕ) (ends : B) (old new : Lines B) (before after : List End) (count got : ℕ) (fits : Bool) : Type 0 where
  pub feeds : new.feeds ≡ old.feeds
  pub base : new.base ≡ old.base
  pub order : old.at ≤ new.at
  pub within : old.at ≤ w → new.at ≤ w
  pub passed : fits ≡ true → old.at ≤ w → new.at ≡ w
  pub reached : (t : ℕ → ℕ) → got ≡ count + min (length (ends_from t (row ends) old.base w old.at)) (length before - count)
  pub fitted : (t : ℕ → ℕ) → fits ≡ nat_le (length (ends_from t (row ends) old.base w old.at)) (length before - count)
  pub left : (t : ℕ → ℕ) → ends_from t (row ends) old.base w new.at ≡ drop (got - count) (ends_from t (row ends) old.base w old.at)
  pub counts : (t : ℕ → ℕ) → Counts row w t old → Counts row w t new
  pub listed : (t : ℕ → ℕ) → Counts row w t old
      → take got after ≡ take count before ++ take (got - count) (ends_from t (row ends) old.base w old.at)
  pub kept : take count after ≡ take count before
  pub rest : drop got after ≡ drop got before

-- what it answers: the count reached, or that the table is full before the last end, and then all of it is taken
abbrev pub ListsEnds : {B : Type 0} → (B → List Bool) → ℕ → B → (old new : Lines B) → (before after : List End) → ℕ → Result ℕ Refusal → Type 0
ListsEnds row w ends old new before after count (Ok got) = Lists row w ends old new before after count got true
ListsEnds row w ends old new before after count (Err e) =
    (e ≡ TableTooShort) × Lists row w ends old new before after count (max count (length before)) false
