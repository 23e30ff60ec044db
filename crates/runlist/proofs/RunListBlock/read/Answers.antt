use Rattle.std.proofs.Common.{arith}
use Rattle.runlist.specs.Lists.{lit}
use Rattle.runlist.proofs.Rows.{row_read}
use Rattle.runlist.proofs.RunListBlock.read.Goals as goal

pub returns : goal.returns
returns c = row_read 64 c.args.k c.byte_at.result (lit c.args.self) (omega arith) c.byte_at.ensures
