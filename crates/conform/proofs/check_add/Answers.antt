use Rattle.conform.proofs.Passes.{sum_passes, sum_seen}
use Rattle.conform.proofs.check_add.Goals as goal

pub returns : goal.returns
returns g c =
    sum_passes _ _ _ _ _ _ _ c.judge_sum.result c.judge_sum.ensures
    (sum_seen g.B.Block.places _ _ c.args.enter _ _ (g.met.B.Block.wide c.add.result.0) c.add.ensures)
