use Rattle.std.proofs.Common.{refl}
use Rattle.search.proofs.Performing.{draw_done}
use Rattle.search.proofs.state.Search.next_end.Goals as goal

pub returns : goal.returns
returns g c blocks h T =
    draw_done g.B.Block.row g.B.Block.places g.met.B.Block.some c.args.self.now _ blocks h c.draw.result c.draw.ensures refl refl refl T
