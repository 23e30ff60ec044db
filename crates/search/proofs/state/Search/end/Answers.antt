use Rattle.std.proofs.Common.{length, refl}
use Rattle.std.proofs.lemmas.Result.{err_from_is_err_and}
use Rattle.search.proofs.Performing.{close_refused, close_done, close_never}
use Rattle.search.proofs.state.Search.end.Goals as goal

pub returns-in_err-may_match : goal.returns-in_err-may_match
returns-in_err-may_match g c h T =
    let p = err_from_is_err_and c.from_residual.result c.from_residual.ensures.1 in
    rw (p.1, p.2)
    (close_refused g.B.Block.row g.B.Block.places g.met.B.Block.some c.args.self.now h c.requires T c.args.blocks.now c.may_match.result
    c.in_err-may_match.field-0.0 c.may_match.ensures c.in_err-may_match.was)

pub returns-in_err-match_rest : goal.returns-in_err-match_rest
returns-in_err-match_rest g c h T =
    absurd
    (close_never g.B.Block.row g.B.Block.places g.met.B.Block.some c.args.self.now h c.requires T c.match_rest.new.self (length c.args.blocks.now)
    c.may_match.result c.in_err-match_rest.field-0.0 c.may_match.ensures c.in_ok-may_match.was c.in_err-match_rest.ensures)

pub returns : goal.returns
returns g c h T =
    close_done g.B.Block.row g.B.Block.places g.met.B.Block.some c.args.self.now h c.requires T c.match_rest.new.self _ c.args.blocks.now c.match_rest.new.blocks
    c.may_match.result c.may_match.ensures c.in_ok-may_match.was c.in_ok-match_rest.ensures refl refl refl
