-- What a run list holds. Assumes nothing.
use Rattle.std.specs.Prelude.{ℕ, Bool, List, take, slice_index_or}
use Rattle.runlist.specs.declared.list.RunList.{RunList}
use Rattle.runlist.specs.Changes.{shown}

-- the changes that a list keeps
abbrev pub kept : RunList → List ℕ
kept r = take r.count r.at

-- the place of the change n, or 64, where the last run ends
abbrev pub change_at : RunList → ℕ → ℕ
change_at r n = slice_index_or (kept r) n 64

-- the bit at place i
abbrev pub lit : RunList → ℕ → Bool
lit r i = shown (kept r) i
