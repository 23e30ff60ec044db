use Rattle.block.proofs.Numbers.{bit_and_lem, bit_or_lem, bit_xor_lem}
use Rattle.conform.proofs.Bytes.{bit_ones, bit_not}
use Rattle.conform.proofs.Logic.byte.Goals as goal

pub returns-in-Everything : goal.returns-in-Everything
returns-in-Everything c j h = rw c.in-Everything.is (bit_ones j h)

pub returns-in-And : goal.returns-in-And
returns-in-And c j h = rw c.in-And.is (bit_and_lem c.args.x c.args.y j)

pub returns-in-Or : goal.returns-in-Or
returns-in-Or c j h = rw c.in-Or.is (bit_or_lem c.args.x c.args.y j)

pub returns-in-Xor : goal.returns-in-Xor
returns-in-Xor c j h = rw c.in-Xor.is (bit_xor_lem c.args.x c.args.y j)

pub returns-in-Not : goal.returns-in-Not
returns-in-Not c j h = rw c.in-Not.is (bit_not c.args.x j c.ranges.x.fits h)
