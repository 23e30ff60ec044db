use Rattle.search.proofs.Performing.{rewind_done}
use Rattle.search.proofs.state.Search.back.Goals as goal

pub returns : goal.returns
returns g c blocks h T =
    rewind_done g.B.Block.row g.B.Block.places g.met.B.Block.some c.args.self.now c.open.new.self c.rewind.new.self blocks h
    c.rewind.ensures c.requires c.open.ensures.state c.open.ensures.finder c.open.ensures.gathered c.open.ensures.taken T
