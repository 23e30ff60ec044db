use Rattle.std.proofs.Common.{◌+◌, ◌-◌, ◌*◌, length}
use Rattle.lexer.specs.Places.{text_of, place_of}
use Rattle.reader.proofs.items.+items_some_items.Given as goal

abbrev pub decreases-items : goal.decreases-items
decreases-items l = 2 * (length (text_of l.lexer.now) - place_of l.lexer.now) + 1

abbrev pub decreases-some_items : goal.decreases-some_items
decreases-some_items l = 2 * (length (text_of l.lexer.now) - place_of l.lexer.now)
