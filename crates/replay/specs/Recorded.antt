-- A list of calls with their answers, as a history, which is lawful. Assumes nothing.
use Rattle.std.specs.Prelude.{◌≡◌, ℕ, min, Bool, List, [], ◌∷◌, length, Result}
use Rattle.refusal.specs.declared.Refusal.{Refusal}
use Rattle.history.specs.Calls.{History}
use Rattle.history.specs.Rules.{Lawful}
use Rattle.search.specs.declared.calls.Answer.{Answer}
use Rattle.search.specs.Telling.{asked, told}
use Rattle.replay.specs.declared.Request.{Request}

module _ {B : Type 0} (row : B → List Bool) (w n : ℕ) where
  -- the history that goes on from h with these requests and answers; of n working blocks each call gets as many as it asks for
  abbrev pub goes_on : History → List Request → List (Result (Answer B) Refusal) → History
  goes_on h [] ts = h
  goes_on h (q ∷ qs) [] = h
  goes_on h (q ∷ qs) (t ∷ ts) = goes_on (record { asked = asked q.call (min q.blocks n); told = told row t } ∷ h) qs ts

  -- each request has its answer, each answer is the right one, and the law holds after each
  pub record Recorded (qs : List Request) (ts : List (Result (Answer B) Refusal)) : Type 0 where
    pub answered : length ts ≡ length qs
    pub lawful : Lawful w (goes_on [] qs ts)
