use Rattle.std.proofs.Common.{rules}
use Rattle.block.specs.Rows.{bit}
use Rattle.conform.specs.Judged.{written}
use Rattle.conform.proofs.judge_put.Goals as goal

pub returns : goal.returns
returns g c = c.judge.ensures (written c.args.k c.args.byte (bit (g.B.Block.row c.args.before))) (λ k byte served post j h. search rules)
