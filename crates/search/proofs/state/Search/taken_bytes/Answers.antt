use Rattle.std.proofs.Common.{refl}
use Rattle.search.proofs.Performing.{says_taken}
use Rattle.search.proofs.state.Search.taken_bytes.Goals as goal

pub returns : goal.returns
returns g c blocks h T =
    says_taken g.B.Block.row g.B.Block.places g.met.B.Block.some c.args.self.now blocks h _ refl T
