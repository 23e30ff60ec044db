use Rattle.std.proofs.Common.{◌+◌, ◌*◌}
use Rattle.classes.proofs.table.ClassTable.+form_list_repeat_union.Given as goal

abbrev pub decreases-form : goal.decreases-form
decreases-form l = 2 * l.i

abbrev pub decreases-list : goal.decreases-list
decreases-list l = 2 * l.i

abbrev pub decreases-union : goal.decreases-union
decreases-union l = 2 * l.i

abbrev pub decreases-repeat : goal.decreases-repeat
decreases-repeat l = 2 * l.part + 1
