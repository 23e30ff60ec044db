use Rattle.conform.proofs.Passes.{sum_passes, advance_seen}
use Rattle.conform.proofs.check_advance.Goals as goal

pub returns : goal.returns
returns g c = sum_passes _ _ _ _ _ _ _ c.judge_sum.result c.judge_sum.ensures (advance_seen g.B.Block.places _ c.args.enter _ _ g.met.B.Block.some c.advance.ensures)
