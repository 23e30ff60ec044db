use Rattle.std.proofs.Common.{rules}
use Rattle.runlist.specs.Lists.{lit}
use Rattle.runlist.proofs.Rows.{total, row_sum}
use Rattle.runlist.proofs.RunListBlock.add.Goals as goal

pub returns : goal.returns
returns c =
    row_sum 64 (lit c.args.self) (lit c.args.other) c.args.enter _ _ (c.merge.ensures.row total (λ x y k r post. search rules))
    c.merge.ensures.fallen
