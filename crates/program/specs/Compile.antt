-- The program of a pattern, and what is claimed of it. Assumes nothing.
use Rattle.std.specs.Prelude.{◌≡◌, ℕ, suc, ◌+◌, ◌<◌, ◌≤◌, max, Bool, false, ◌↔◌, List, [], ◌∷◌, ◌++◌}
use Rattle.block.specs.Calls.{none_row, all_row}
use Rattle.theory.specs.Pattern.{Pattern, Streams, leaf, many, plus, eps, seq, alt, opt, star, head, tail}
use Rattle.theory.specs.Block.{class_row, start_row, feed_row, Has}
use Rattle.theory.specs.Passes.{stars}
use Rattle.theory.specs.Whole.{Ending, Carried}
use Rattle.program.specs.declared.Step.{Step}
use Rattle.program.specs.declared.Step.TheVariants.{Take, Run, More, Keep, Save, Load, Or, Grow}
use Rattle.program.specs.Machine.{Machine, repeated}
use Rattle.program.specs.Numbered.{leaves, carries_of, Classed}

-- The rows of a program, by number: those below `feeds_at` keep the marks before a union, by its depth; then the line feeds, the line
-- starts, the classes; then the stars' rows, and the rows in which unions gather.
abbrev pub feeds_at : ℕ
feeds_at = 16

abbrev pub starts_at : ℕ
starts_at = 17

abbrev pub classes_at : ℕ
classes_at = 18

-- how many gathering rows a pattern has; a pattern whose marks go into a row that gathers already shares it with its last parts
abbrev mutual
  pub unions : Pattern → ℕ
  unions (leaf c) = 0
  unions (many c) = 0
  unions (plus c) = 0
  unions eps = 0
  unions (seq F G) = unions F + unions G
  unions (alt F G) = suc (unions F + unions_into G)
  unions (opt F) = suc (unions_into F)
  unions (star F) = unions F
  unions head = 0
  unions tail = 0

  pub unions_into : Pattern → ℕ
  unions_into (leaf c) = 0
  unions_into (many c) = 0
  unions_into (plus c) = 0
  unions_into eps = 0
  unions_into (seq F G) = unions F + unions_into G
  unions_into (alt F G) = unions_into F + unions_into G
  unions_into (opt F) = unions_into F
  unions_into (star F) = unions F
  unions_into head = 0
  unions_into tail = 0

-- how many rows keep marks at once
abbrev mutual
  pub depth : Pattern → ℕ
  depth (leaf c) = 0
  depth (many c) = 0
  depth (plus c) = 0
  depth eps = 0
  depth (seq F G) = max (depth F) (depth G)
  depth (alt F G) = max (suc (depth F)) (depth_into G)
  depth (opt F) = depth_into F
  depth (star F) = depth F
  depth head = 0
  depth tail = 0

  pub depth_into : Pattern → ℕ
  depth_into (leaf c) = 0
  depth_into (many c) = 0
  depth_into (plus c) = 0
  depth_into eps = 0
  depth_into (seq F G) = max (depth F) (depth_into G)
  depth_into (alt F G) = max (suc (depth_into F)) (depth_into G)
  depth_into (opt F) = depth_into F
  depth_into (star F) = depth F
  depth_into head = 0
  depth_into tail = 0

-- Carries are numbered from k on, stars' rows from s on, gathering rows from a on, and rows that keep marks from d on.
abbrev mutual
  -- the marks become those behind the pattern
  pub steps : Pattern → (k s a d : ℕ) → List Step
  steps (leaf c) k s a d = Take (classes_at + c) k ∷ []
  steps (many c) k s a d = Run (classes_at + c) k ∷ []
  steps (plus c) k s a d = More (classes_at + c) k ∷ []
  steps eps k s a d = []
  steps (seq F G) k s a d = steps F k s a d ++ steps G (k + leaves F) (s + stars F) (a + unions F) d
  steps (alt F G) k s a d =
      Save d
      ∷ (steps F k s (suc a) (suc d)
      ++ (Save a ∷ Load d ∷ (into G (k + leaves F) (s + stars F) (suc (a + unions F)) d a ++ (Load a ∷ []))))
  steps (opt F) k s a d = Save a ∷ (into F k s (suc a) d a ++ (Load a ∷ []))
  steps (star F) k s a d =
      Or s ∷ Load s ∷ (steps F k (suc s) a d ++ (Grow s ∷ Load s ∷ []))
  steps head k s a d = Keep starts_at ∷ []
  steps tail k s a d = Keep feeds_at ∷ []

  -- the marks behind the pattern are added to the row r
  pub into : Pattern → (k s a d r : ℕ) → List Step
  into (leaf c) k s a d r = Take (classes_at + c) k ∷ Or r ∷ []
  into (many c) k s a d r = Run (classes_at + c) k ∷ Or r ∷ []
  into (plus c) k s a d r = More (classes_at + c) k ∷ Or r ∷ []
  into eps k s a d r = Or r ∷ []
  into (seq F G) k s a d r = steps F k s a d ++ into G (k + leaves F) (s + stars F) (a + unions F) d r
  into (alt F G) k s a d r =
      Save d ∷ (into F k s a (suc d) r ++ (Load d ∷ into G (k + leaves F) (s + stars F) (a + unions_into F) d r))
  into (opt F) k s a d r = Or r ∷ into F k s a d r
  into (star F) k s a d r =
      Or s ∷ Load s ∷ (steps F k (suc s) a d ++ (Grow s ∷ Load s ∷ Or r ∷ []))
  into head k s a d r = Keep starts_at ∷ Or r ∷ []
  into tail k s a d r = Keep feeds_at ∷ Or r ∷ []

-- the program of a pattern with n classes: stars' rows begin behind these
abbrev pub stars_at : ℕ → ℕ
stars_at n = classes_at + n

abbrev pub program : ℕ → Pattern → List Step
program n F = steps F 0 (stars_at n) (stars_at n + stars F) 0

-- how many rows it needs
abbrev pub rows_for : ℕ → Pattern → ℕ
rows_for n F = stars_at n + stars F + unions F

-- the rows f are those of the n classes, the line starts and the line feeds, for w places of the streams from b
pub record Ruled (t : Streams) (b w n : ℕ) (f : ℕ → List Bool) : Type 0 where
  pub classes : (c : ℕ) → c < n → f (classes_at + c) ≡ class_row t b w c
  pub starts : f starts_at ≡ start_row t b w
  pub feeds : f feeds_at ≡ feed_row t b w

-- Passes over a block of w places from b, with every place marked and with empty stars' rows at first: where no star added to its row
-- in the last, its marks are just the places at which a match ends, and its carries stand for the matches from before the block's
-- end. What the other rows hold at first does not matter.
abbrev pub ProgramBlock : Type 0
ProgramBlock =
    (t : Streams) (b w : ℕ) →
    0 < w →
    (n : ℕ) (F : Pattern) →
    Classed n F →
    depth F ≤ feeds_at →
    (ins : ℕ → Bool) →
    Carried t b F (carries_of F 0 ins) →
    (x : Machine) →
    Ruled t b w n x.rows →
    ((i : ℕ) → stars_at n ≤ i → i < stars_at n + stars F → x.rows i ≡ none_row w) →
    (j : ℕ) →
    (repeated w ins (program n F) (all_row w) x j).changed ≡ false →
    ((p : ℕ) → b ≤ p → p < b + w → Has b w (repeated w ins (program n F) (all_row w) x j).marks p ↔ Ending t F p)
    × Carried t (b + w) F (carries_of F 0 (repeated w ins (program n F) (all_row w) x j).carries)

-- the step's numbers are in range, of n rows and k carries; to the rows from s to before e, the stars', it only adds
abbrev pub Within : (n k s e : ℕ) → Step → Type 0
Within n k s e (Take c j) = (c < n) × (j < k)
Within n k s e (Run c j) = (c < n) × (j < k)
Within n k s e (More c j) = (c < n) × (j < k)
Within n k s e (Keep r) = r < n
Within n k s e (Save r) = (r < n) × (s ≤ r → r < e → ⊥)
Within n k s e (Load r) = r < n
Within n k s e (Or r) = r < n
Within n k s e (Grow r) = (r < n) × (s ≤ r) × (r < e)

abbrev pub Each : (Step → Type 0) → List Step → Type 0
Each P [] = Unit {0}
Each P (s ∷ p) = P s × Each P p

-- a program's numbers are in range
abbrev pub ProgramFits : Type 0
ProgramFits =
    (n : ℕ) (F : Pattern) →
    Classed n F →
    depth F ≤ feeds_at →
    Each (Within (rows_for n F) (leaves F) (stars_at n) (stars_at n + stars F)) (program n F)
