use Rattle.std.proofs.Common.{refl}
use Rattle.std.proofs.lemmas.Result.{err_from_is_err_and}
use Rattle.search.proofs.Performing.{load_done, load_refused}
use Rattle.search.proofs.state.Search.take_text.Goals as goal

pub returns-in_err-load : goal.returns-in_err-load
returns-in_err-load g c blocks h T =
    let p = err_from_is_err_and c.from_residual.result c.from_residual.ensures.1 in
    rw (p.1, p.2)
    (load_refused g.B.Block.row g.B.Block.places g.met.B.Block.some c.args.self.now _ blocks h c.args.text.now c.in_err-load.field-0.0
    c.in_err-load.ensures refl refl refl T)

pub returns : goal.returns
returns g c blocks h T =
    load_done g.B.Block.row g.B.Block.places g.met.B.Block.some c.args.self.now c.open.new.self c.load.new.self blocks h c.args.text.now
    c.in_ok-load.ensures c.open.ensures.state c.open.ensures.finder c.open.ensures.gathered c.open.ensures.taken T
