use Rattle.std.proofs.Common.{refl}
use Rattle.form.specs.Form.{start}
use Rattle.search.proofs.Performing.{newborn}
use Rattle.search.proofs.state.Search.new.Goals as goal

pub returns : goal.returns
returns g c =
    newborn g.B.Block.row g.B.Block.places g.met.B.Block.some _ start refl c.in_ok-finder.ensures refl
