-- The lines that are printed, and what a print answers. Assumes nothing.
use Rattle.std.specs.Prelude.{◌≡◌, ℕ, ◌<◌, ◌≤◌, List, [], ◌∷◌, ◌++◌, length, drop, Ok, Err, codes, Result}
use Rattle.report.specs.Decimals.{decimal}
use Rattle.refusal.specs.Refusals.{number_of, place_of}
use Rattle.refusal.specs.declared.Refusal.{Refusal}
use Rattle.refusal.specs.declared.Refusal.TheVariants.{BufferTooShort}
use Rattle.refusal.specs.declared.ends.End.{End}
use Rattle.std.specs.Option.{unwrap_or}
use Rattle.std.specs.List.{concat}

-- the byte that closes a line
abbrev pub line_feed : List ℕ
line_feed = 10 ∷ []

-- an end: its line and its column; `concat` puts the bytes one behind the other
abbrev pub end_line : End → List ℕ
end_line end = concat (decimal end.line ∷ codes " " ∷ decimal end.column ∷ line_feed ∷ [])

-- a refusal: its number and its place, 0 where it has none
abbrev pub declined_line : Refusal → List ℕ
declined_line refusal = concat (codes "declined " ∷ decimal (number_of refusal) ∷ codes " " ∷ decimal (unwrap_or (place_of refusal) 0) ∷ line_feed ∷ [])

-- What a print of `line` answers, the buffer holding `before` at first and `after` in the end. A line that has room is written from
-- the first byte on, and the bytes behind it stay. Any other is refused, and all bytes stay.
abbrev pub Printed : List ℕ → List ℕ → List ℕ → Result ℕ Refusal → Type 0
Printed line before after (Ok n) = (length line ≤ length before) × (n ≡ length line) × (after ≡ line ++ drop n before)
Printed line before after (Err refusal) = (length before < length line) × (refusal ≡ BufferTooShort) × (after ≡ before)
