-- The worked examples, from those of the crates below. Assumes nothing.
use Rattle.std.proofs.Common.{refl, lit≤}
use Rattle.refusal.specs.declared.Refusal.TheVariants.{UnexpectedToken}
use Rattle.stream.specs.MatchStar.{Examples}
use Rattle.form.specs.Worked.{Worked}
use Rattle.grammar.specs.Verdicts.{SeekAlone}
use Rattle.reader.specs.declared.fault.FormFault.TheVariants.{Unexpected}
use Rattle.compiler.specs.declared.fault.ProgramFault.TheVariants.{Unread}
use Rattle.worked.specs.Worked.{WorkedExamples}
use Rattle.worked.proofs.Lexed.{settles}
use Rattle.worked.proofs.Texts.{empty_text, filled_text, between_text, not_dot_text, nested_text}

pub rows : Examples → SeekAlone → Worked → WorkedExamples
rows examples alone ends =
    record {
      match_star = examples;
      seek_alone = (UnexpectedToken 5, record { fault = Unread (Unexpected 5); why = alone; called = refl }, refl, refl);
      none = (_, _, settles empty_text refl, lit≤ tt, ends.none, refl);
      every = (_, _, settles empty_text refl, lit≤ tt, ends.every, refl);
      whole = (_, _, settles filled_text refl, lit≤ tt, ends.whole, refl);
      three = (_, _, settles between_text refl, lit≤ tt, ends.three, refl);
      four = (_, _, settles between_text refl, lit≤ tt, ends.four, refl);
      other = (_, _, settles not_dot_text refl, lit≤ tt, ends.other, refl);
      stars = (_, _, settles nested_text refl, lit≤ tt, ends.stars, refl);
    }
