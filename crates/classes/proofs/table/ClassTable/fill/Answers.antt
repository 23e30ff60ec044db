use Rattle.classes.proofs.Adding.{filled}
use Rattle.classes.proofs.table.ClassTable.fill.Goals as goal

pub returns : goal.returns
returns c f h w = filled _ c.form.new.self f c.clear.ensures.items w (c.form.ensures f h)
