use Rattle.std.proofs.Common.{Bool, false, rules}
use Rattle.block.specs.Calls.{differ}
use Rattle.runlist.specs.Lists.{lit}
use Rattle.runlist.proofs.Rows.{row_merged}
use Rattle.runlist.proofs.RunListBlock.xor.Goals as goal

pub returns : goal.returns
returns c =
    let f = (λ (x y k : Bool). differ x y) in
    row_merged f 64 (lit c.args.self) (lit c.args.other) false _ (c.merge.ensures.row f (λ x y k r post. search rules))
