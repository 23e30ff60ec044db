use Rattle.emit.proofs.shape.+all_empty_any_empty_empty.Given as goal

abbrev pub decreases-empty : goal.decreases-empty
decreases-empty l = l.i

abbrev pub decreases-all_empty : goal.decreases-all_empty
decreases-all_empty l = l.i

abbrev pub decreases-any_empty : goal.decreases-any_empty
decreases-any_empty l = l.i
