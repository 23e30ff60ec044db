use Rattle.std.proofs.Common.{◌+◌, ◌-◌, ◌*◌, length}
use Rattle.lexer.specs.Places.{text_of, place_of}
use Rattle.reader.proofs.forms.+form_headed_list_single_some.Given as goal

abbrev pub decreases-form : goal.decreases-form
decreases-form l = 3 * (length (text_of l.lexer.now) - place_of l.lexer.now)

abbrev pub decreases-headed : goal.decreases-headed
decreases-headed l = 3 * (length (text_of l.lexer.now) - place_of l.lexer.now)

abbrev pub decreases-single : goal.decreases-single
decreases-single l = 3 * (length (text_of l.lexer.now) - place_of l.lexer.now) + 1

abbrev pub decreases-some : goal.decreases-some
decreases-some l = 3 * (length (text_of l.lexer.now) - place_of l.lexer.now) + 1

abbrev pub decreases-list : goal.decreases-list
decreases-list l = 3 * (length (text_of l.lexer.now) - place_of l.lexer.now) + 2
