use Rattle.std.proofs.Common.{ℕ, ◌^◌, ◌<◌, get_or, arith}
use Rattle.machine.proofs.Rows.{feed_row_lem, ruled}
use Rattle.machine.proofs.rules.rule.Goals as goal

pub returns : goal.returns
returns g c =
    let row = g.B.Block.row in
    let w = g.B.Block.places in
    let bytes = c.args.bytes.now in
    let T = c.in_ok-transpose.ensures.2 in
    let byte : (i : ℕ) → get_or bytes i 0 < 2 ^ 8 = λ i. let f = c.type_inv.bytes i in omega arith in
    let feeds = c.in_ok-feeds.feeds in
    let starts = c.advance-starts.result.0 in
    let out = c.advance-starts.result.1 in
    let sets = c.args.sets.now in
    let blocks = c.classify.new.blocks in
    let ef =
    feed_row_lem row w bytes c.args.start sets _ _ blocks T byte feeds starts out c.none.result c.with.result c.none.ensures c.with.ensures
    c.in_ok-feeds.ensures.1 in
    ruled row w bytes c.args.start sets _ _ blocks T byte feeds starts out ef c.advance-starts.ensures (omega arith)
    c.in_ok-classify.ensures.classes
