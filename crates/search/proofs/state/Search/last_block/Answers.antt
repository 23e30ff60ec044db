use Rattle.search.proofs.Performing.{says_waiting}
use Rattle.search.proofs.state.Search.last_block.Goals as goal

pub returns : goal.returns
returns g c blocks h T =
    says_waiting g.B.Block.row g.B.Block.places g.met.B.Block.some g.met.B.Block.wide c.args.self.now blocks h _ c.waiting.ensures T
