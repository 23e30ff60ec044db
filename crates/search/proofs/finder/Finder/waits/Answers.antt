use Rattle.std.proofs.Common.{Bool, List, sym, ◌∙◌, subst, arith}
use Rattle.block.specs.Calls.{First}
use Rattle.search.proofs.Finding.{ends_read, waits_some}
use Rattle.search.proofs.finder.Finder.waits.Goals as goal

pub returns : goal.returns
returns g c F m hs ws X =
    let row = g.B.Block.row in
    let w = g.B.Block.places in
    let x = c.args.self.now in
    let e = ends_read row w g.met.B.Block.some x c.index.result.now c.index.ensures in
    c.is_some.ensures
    ∙ waits_some row w g.met.B.Block.some x F m hs ws X (omega arith) c.first.result (subst (λ (r : List Bool). First w r 0 c.first.result) (sym e) c.first.ensures)
