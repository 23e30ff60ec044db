-- What becomes of bytes that enter a search. Assumes nothing.
use Rattle.std.specs.Prelude.{◌≡◌, ℕ, ◌+◌, ◌<◌, ◌≤◌, Bool, true, false, cond, List, [], ◌∷◌, ◌++◌, length, take, Ok, Result}
use Rattle.limits.specs.Limits.{widest_kind, longest_recording}
use Rattle.form.specs.Lines.{Place}
use Rattle.form.specs.Meaning.{feed}
use Rattle.form.specs.Positions.{opens, tape, closed}
use Rattle.refusal.specs.declared.Refusal.{Refusal}
use Rattle.history.specs.Rules.{Fills, Stops, some}
use Rattle.search.specs.Finding.{Finds, MatchesMore}
use Rattle.search.specs.Telling.{gathered_of, Running, WhereRuns, WhereReady}
use Rattle.search.specs.declared.state.Search.{Search}

-- the part is kept behind what was gathered, where there is room
pub record Gathers {B : Type 0} (s u : Search B) (part : List ℕ) : Type 0 where
  pub state : u.state ≡ s.state
  pub finder : u.finder ≡ s.finder
  pub taken : u.taken ≡ s.taken
  pub kept : length (gathered_of s) + length part ≤ widest_kind → gathered_of u ≡ gathered_of s ++ part

module _ {B : Type 0} (row : B → List Bool) (w : ℕ) where
  -- what was gathered is matched, and nothing is left of it
  pub record MatchesGathered (s u : Search B) (blocks : ℕ) (r : Result Bool Refusal) : Type 0 where
    pub state : u.state ≡ s.state
    pub taken : u.taken ≡ s.taken
    pub gathered : gathered_of u ≡ []
    pub finder : MatchesMore row w s.finder u.finder (gathered_of s) blocks r

  -- bytes that the next block has room for are taken, and it is told whether they fill one that holds an end
  pub record Enters (s u : Search B) (part : List ℕ) (blocks : ℕ) (r : Result Bool Refusal) : Type 0 where
    pub state : u.state ≡ s.state
    pub on :
        WhereReady row w s blocks (λ F bytes hs.
        0 < length part → length (gathered_of s) + length part ≤ w → length bytes + length part ≤ longest_recording →
        (ws : List Place) × (r ≡ Ok (some ws)) × Running row w u F (bytes ++ part) hs ws × (some ws ≡ true → Fills w F (bytes ++ part))
        × (some ws ≡ false → Fills w F (bytes ++ part) → ⊥))

  -- a piece is taken as far as its rule says
  pub record Takes (s u : Search B) (piece : List ℕ) (blocks : ℕ) (r : Result ℕ Refusal) : Type 0 where
    pub state : u.state ≡ s.state
    pub on :
        WhereReady row w s blocks (λ F bytes hs.
        length bytes + length piece ≤ longest_recording →
        (n : ℕ) × (ws : List Place) × (r ≡ Ok n) × Stops w F bytes piece n × Running row w u F (bytes ++ take n piece) hs ws)

  -- behind a last line that has none a line feed is gathered
  pub record EndsLine (s u : Search B) : Type 0 where
    pub state : u.state ≡ s.state
    pub finder : u.finder ≡ s.finder
    pub taken : u.taken ≡ s.taken
    pub line :
        WhereRuns row w s (λ F bytes ws.
        (gathered_of u ≡ gathered_of s ++ cond (opens (tape bytes) (length bytes)) [] (feed ∷ [])) × (length (gathered_of u) ≤ w))

  -- the recording is matched to its end
  pub record Closes (s u : Search B) (blocks : ℕ) (r : Result (Unit {0}) Refusal) : Type 0 where
    pub state : u.state ≡ s.state
    pub taken : u.taken ≡ s.taken
    pub on :
        WhereReady row w s blocks (λ F bytes hs. (ws : List Place) × (r ≡ Ok tt) × Finds row w u.finder F (closed bytes) hs ws)
