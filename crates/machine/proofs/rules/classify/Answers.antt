use Rattle.std.proofs.Common.{◌≡◌, length, get_or, sym, ap, ◌∙◌, arith}
use Rattle.block.specs.Rows.{tab}
use Rattle.stream.specs.Sets.{has}
use Rattle.stream.specs.Tables.{held, rows}
use Rattle.stream.proofs.Tables.{rows_more}
use Rattle.machine.specs.Ruling.{no_set}
use Rattle.machine.proofs.Rows.{classes_behind}
use Rattle.machine.proofs.rules.classify.Goals as goal

pub loop-c-preserved : goal.loop-c-preserved
loop-c-preserved g c =
    let row = g.B.Block.row in
    let table = c.split_at_mut-table.result.0.now in
    let parts = c.split_at_mut-table.ensures in
    let room = c.requires in
    let long = c.loop-c.auto.rows in
    let back = parts.back_len in
    rows_more row c.loop-c.rows c.loop-c.c c.in_ok-rows.field-0
    (λ k r. r ≡ tab g.B.Block.places (λ i. has (get_or c.args.sets.now k no_set) (held (rows row table) i))) (omega arith)
    c.in_ok-rows.ensures.1 c.loop-c.invariant

pub returns-clause-classes : goal.returns-clause-classes
returns-clause-classes g c k l =
    let row = g.B.Block.row in
    let w = g.B.Block.places in
    let sets = c.args.sets.now in
    let parts = c.split_at_mut-table.ensures in
    let table = c.split_at_mut-table.result.0.now in
    let rest = c.split_at_mut-table.result.1.now in
    let size = parts.front_len in
    classes_behind row w sets table rest c.loop-c.rows (length sets) size (λ i m. c.loop-c.invariant i (omega arith)) k l
    ∙ ap (λ t. tab w (λ i. has (get_or sets k no_set) (held (rows row t) i))) (sym parts.value)
