-- Whether a list of places has one at a position. Assumes nothing.
use Rattle.std.specs.Prelude.{ℕ, Bool, false, ◌||◌, List, [], ◌∷◌, ◌==◌}
use Rattle.form.specs.Lines.{Place}

abbrev pub among : List Place → ℕ → Bool
among [] p = false
among (e ∷ es) p = e.position == p || among es p
