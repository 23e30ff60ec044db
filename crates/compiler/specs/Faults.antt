-- What a fault says of a text. Assumes nothing.
use Rattle.std.specs.Prelude.{◌≡◌, ℕ, ◌<◌, ◌≤◌, List}
use Rattle.form.specs.Form.{Form, weight}
use Rattle.grammar.specs.Verdicts.{Settles, accepted}
use Rattle.reader.specs.Faults as reader
use Rattle.reader.specs.declared.fault.FormFault.TheVariants as form
use Rattle.refusal.specs.declared.Refusal.{Refusal}
use Rattle.refusal.specs.declared.Refusal.TheVariants as refused
use Rattle.refusal.specs.declared.Refusal.TheVariants.{TextTooLong, NoToken, UnexpectedToken, BadNumber, TooDeep}
use Rattle.limits.specs.Limits.{heaviest}
use Rattle.compiler.specs.declared.fault.ProgramFault.{ProgramFault}
use Rattle.compiler.specs.declared.fault.ProgramFault.TheVariants.{Unread, TooHeavy}

-- the text x is refused for the fault
abbrev pub Why : ProgramFault → List ℕ → Type 0
Why (Unread e) x = Settles x (reader.verdict e)
Why TooHeavy x = (f : Form) × Settles x (accepted f) × (heaviest < weight f)

-- the text x is taken, and its form is f
abbrev pub Reads : List ℕ → Form → Type 0
Reads x f = Settles x (accepted f) × (weight f ≤ heaviest)

-- what a fault is called outside: the refusal has the number and the place
abbrev pub refusal_of : ProgramFault → Refusal
refusal_of (Unread form.TooLong) = TextTooLong
refusal_of (Unread (form.NoToken token)) = NoToken token.at
refusal_of (Unread (form.Unexpected at)) = UnexpectedToken at
refusal_of (Unread (form.BadNumber at)) = BadNumber at
refusal_of (Unread (form.TooDeep at)) = TooDeep at
refusal_of TooHeavy = refused.TooHeavy

-- the text x is refused with r, for just one reason
pub record Refused (x : List ℕ) (r : Refusal) : Type 0 where
  pub fault : ProgramFault
  pub why : Why fault x
  pub called : r ≡ refusal_of fault
