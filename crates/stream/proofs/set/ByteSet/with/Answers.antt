use Rattle.std.proofs.Common.{arith}
use Rattle.stream.proofs.Members.{with_low, with_high}
use Rattle.stream.proofs.set.ByteSet.with.Goals as goal

pub returns-then-byte-lt128 : goal.returns-then-byte-lt128
returns-then-byte-lt128 c v l = with_low c.args.self.low c.args.self.high c.args.byte (omega arith) v

pub returns : goal.returns
returns c v l = with_high c.args.self.low c.args.self.high c.args.byte (omega arith) (omega arith) v
