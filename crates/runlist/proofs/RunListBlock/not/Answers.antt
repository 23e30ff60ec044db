use Rattle.std.proofs.Common.{Bool, not, false, rules}
use Rattle.runlist.specs.Lists.{lit}
use Rattle.runlist.proofs.Rows.{row_merged}
use Rattle.runlist.proofs.RunListBlock.not.Goals as goal

pub returns : goal.returns
returns c =
    let f = (λ (x y k : Bool). not x) in
    row_merged f 64 (lit c.args.self) (lit c.none.result) false _ (c.merge.ensures.row f (λ x y k r post. search rules))
