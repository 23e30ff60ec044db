-- The ends that blocks show are the ends of the recording. Assumes nothing.
use Rattle.std.specs.Prelude.{◌≡◌, List, ◌++◌, ◌↔◌, ℕ, ◌<◌, ◌≤◌, length}
use Rattle.form.specs.Form.{Form}
use Rattle.form.specs.Lines.{Place, IsEnd}
use Rattle.form.specs.Positions.{closed, Holds, place_at}
use Rattle.theory.specs.Whole.{AllSettled, Marked, border}
use Rattle.theory.specs.Written.{streams, written}

-- e is the place of a position that is marked in one of the blocks of W places, block j being settled after n j passes
pub record Shown (F : Form) (t : ℕ → ℕ) (W : ℕ) (n : ℕ → ℕ) (blocks : ℕ) (e : Place) : Type 0 where
  pub marked : Marked (streams F t) W (written F) n blocks e.position
  pub place : e ≡ place_at t e.position

-- While a recording runs: blocks of bytes taken show the ends, at their positions, of every recording that goes on from there.
abbrev pub OpenBlocks : Type 0
OpenBlocks =
    (F : Form) (bytes rest : List ℕ) (t : ℕ → ℕ) →
    Holds t bytes →
    (W : ℕ) →
    0 < W →
    (n : ℕ → ℕ) (blocks : ℕ) →
    border W blocks ≤ length bytes →
    AllSettled (streams F t) W (written F) n blocks →
    (e : Place) →
    e.position < border W blocks →
    IsEnd (bytes ++ rest) F e ↔ Shown F t W n blocks e

-- Once it is closed: blocks that reach to its end, with anything behind that, show all its ends, but for places behind the end.
abbrev pub ClosingBlocks : Type 0
ClosingBlocks =
    (F : Form) (recording : List ℕ) (t : ℕ → ℕ) →
    Holds t (closed recording) →
    (W : ℕ) →
    0 < W →
    (n : ℕ → ℕ) (blocks : ℕ) →
    length (closed recording) ≤ border W blocks →
    AllSettled (streams F t) W (written F) n blocks →
    (e : Place) →
    IsEnd recording F e ↔ ((e.position < length (closed recording)) × Shown F t W n blocks e)
