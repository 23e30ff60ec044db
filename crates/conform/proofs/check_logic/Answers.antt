use Rattle.conform.proofs.Passes.{passes, agree_tab}
use Rattle.conform.proofs.check_logic.Goals as goal

pub returns : goal.returns
returns g c = passes _ _ _ _ c.judge_logic.result c.judge_logic.ensures (agree_tab g.B.Block.places _ _ c.answer.ensures)
