-- The words that name the forms. Assumes nothing.
use Rattle.std.specs.Prelude.{ℕ, List, codes}
use Rattle.grammar.specs.declared.Head.{Head}
use Rattle.grammar.specs.declared.Head.TheVariants.{Set, Out, Seq, Or, Star, Rep, Start, End}

abbrev pub name : Head → List ℕ
name Set = codes "set"
name Out = codes "out"
name Seq = codes "seq"
name Or = codes "or"
name Star = codes "star"
name Rep = codes "rep"
name Start = codes "start"
name End = codes "end"
