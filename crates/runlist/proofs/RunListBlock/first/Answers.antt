use Rattle.runlist.specs.Lists.{lit}
use Rattle.runlist.proofs.Rows.{first_row}
use Rattle.runlist.proofs.RunListBlock.first.Goals as goal

pub returns : goal.returns
returns c = first_row 64 (lit c.args.self) c.args.i c.next_one.result c.next_one.ensures
