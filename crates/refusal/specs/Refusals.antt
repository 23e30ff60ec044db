-- The number and the place of each refusal. Assumes nothing.
use Rattle.std.specs.Prelude.{ℕ, Some, None, Option}
use Rattle.refusal.specs.declared.Refusal.{Refusal}
use Rattle.refusal.specs.declared.Refusal.TheVariants.{KindTooWide, TextTooLong, NoToken, UnexpectedToken, BadNumber, TooDeep, TooHeavy, SearchEmpty, SearchClosed, EndsWaiting, TooFewBlocks, TooManyBytes, RecordingTooLong, TableTooShort, BufferTooShort}

-- the most bytes that a text may have
abbrev pub longest_text : ℕ
longest_text = 4096

-- what a refusal is reported as
abbrev pub number_of : Refusal → ℕ
number_of KindTooWide = 1
number_of TextTooLong = 2
number_of (NoToken at) = 3
number_of (UnexpectedToken at) = 4
number_of (BadNumber at) = 5
number_of (TooDeep at) = 6
number_of TooHeavy = 7
number_of SearchEmpty = 8
number_of SearchClosed = 9
number_of EndsWaiting = 10
number_of TooFewBlocks = 11
number_of TooManyBytes = 12
number_of RecordingTooLong = 13
number_of TableTooShort = 14
number_of BufferTooShort = 15

-- the place in the text, counted from 0, at which a load or a list is refused
abbrev pub place_of : Refusal → Option ℕ
place_of KindTooWide = Some 0
place_of TextTooLong = Some longest_text
place_of (NoToken at) = Some at
place_of (UnexpectedToken at) = Some at
place_of (BadNumber at) = Some at
place_of (TooDeep at) = Some at
place_of TooHeavy = Some 0
place_of SearchEmpty = None
place_of SearchClosed = None
place_of EndsWaiting = None
place_of TooFewBlocks = None
place_of TooManyBytes = None
place_of RecordingTooLong = None
place_of TableTooShort = None
place_of BufferTooShort = None
