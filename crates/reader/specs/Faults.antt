-- What a fault says of a text. Assumes nothing.
use Rattle.grammar.specs.Verdicts.{Verdict, too_long, no_token, unexpected, bad_number, too_deep}
use Rattle.reader.specs.declared.fault.FormFault.{FormFault}
use Rattle.reader.specs.declared.fault.FormFault.TheVariants.{TooLong, NoToken, Unexpected, BadNumber, TooDeep}

-- the verdict of a fault
abbrev pub verdict : FormFault → Verdict
verdict TooLong = too_long
verdict (NoToken f) = no_token f.at
verdict (Unexpected at) = unexpected at
verdict (BadNumber at) = bad_number at
verdict (TooDeep at) = too_deep at
