use Rattle.emit.proofs.shape.+alone_single.Given as goal

abbrev pub decreases-single : goal.decreases-single
decreases-single l = l.i

abbrev pub decreases-alone : goal.decreases-alone
decreases-alone l = l.i
