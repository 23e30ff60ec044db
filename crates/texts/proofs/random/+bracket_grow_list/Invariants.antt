use Rattle.std.proofs.Common.{◌+◌, ◌*◌}
use Rattle.texts.proofs.random.+bracket_grow_list.Given as goal

abbrev pub decreases-grow : goal.decreases-grow
decreases-grow l = 3 * l.depth

abbrev pub decreases-bracket : goal.decreases-bracket
decreases-bracket l = 3 * l.depth + 2

abbrev pub decreases-list : goal.decreases-list
decreases-list l = 3 * l.depth + 1
