use Rattle.std.proofs.Common.{length}
use Rattle.std.proofs.lemmas.Result.{err_from_is_err_and}
use Rattle.search.proofs.Performing.{feed_refused, feed_took, feed_never}
use Rattle.search.proofs.state.Search.take_piece.Goals as goal

pub returns-in_err-may_feed : goal.returns-in_err-may_feed
returns-in_err-may_feed g c h T =
    let p = err_from_is_err_and c.from_residual.result c.from_residual.ensures.1 in
    rw (p.1, p.2)
    (feed_refused g.B.Block.row g.B.Block.places g.met.B.Block.some c.args.self.now h c.requires T c.args.blocks.now c.args.piece.now c.may_feed.result
    c.in_err-may_feed.field-0.0 c.may_feed.ensures c.in_err-may_feed.was)

pub returns-in_err-n : goal.returns-in_err-n
returns-in_err-n g c h T =
    absurd
    (feed_never g.B.Block.row g.B.Block.places g.met.B.Block.some c.args.self.now h c.requires T c.take.new.self (length c.args.blocks.now) c.args.piece.now
    c.may_feed.result c.in_err-n.field-0.0 c.may_feed.ensures c.in_ok-may_feed.was c.in_err-n.ensures)

pub returns : goal.returns
returns g c h T =
    feed_took g.B.Block.row g.B.Block.places g.met.B.Block.some c.args.self.now h c.requires T c.take.new.self c.args.blocks.now c.take.new.blocks
    c.args.piece.now c.may_feed.result c.in_ok-n.n c.may_feed.ensures c.in_ok-may_feed.was c.in_ok-n.ensures
