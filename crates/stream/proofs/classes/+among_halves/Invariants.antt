use Rattle.std.proofs.Common.{◌+◌, ◌*◌}
use Rattle.stream.proofs.classes.+among_halves.Given as goal

abbrev pub decreases-among : goal.decreases-among
decreases-among g l = 2 * l.n

abbrev pub decreases-halves : goal.decreases-halves
decreases-halves g l = 2 * l.n + 1
