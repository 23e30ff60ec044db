use Rattle.program.proofs.Sizes.{form_classed, form_rows_lem, form_depth, form_carries}
use Rattle.program.proofs.form_sizes_stand.Goals as goal

pub returns : goal.returns
returns c = record { classed = form_classed; rows = form_rows_lem; depth = form_depth; carries = form_carries }
