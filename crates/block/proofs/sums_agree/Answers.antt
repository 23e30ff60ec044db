use Rattle.block.proofs.Sums.{sums_agree_lem}
use Rattle.block.proofs.sums_agree.Goals as goal

pub returns : goal.returns
returns c = sums_agree_lem
