-- A machine's state as blocks, carries and a note hold it. Assumes nothing.
use Rattle.std.specs.Prelude.{ℕ, Bool, List}
use Rattle.stream.specs.Tables.{rows}
use Rattle.program.specs.Machine.{Machine}

-- the marks and the rows are what the blocks hold
abbrev pub holding : {B : Type 0} → (B → List Bool) → B → List B → (ℕ → Bool) → Bool → Machine
holding row marks blocks carries changed = record { marks = row marks; rows = rows row blocks; carries = carries; changed = changed }
