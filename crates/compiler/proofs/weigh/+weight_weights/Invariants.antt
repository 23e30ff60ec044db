use Rattle.compiler.proofs.weigh.+weight_weights.Given as goal

abbrev pub decreases-weight : goal.decreases-weight
decreases-weight l = l.i

abbrev pub decreases-weights : goal.decreases-weights
decreases-weights l = l.i
