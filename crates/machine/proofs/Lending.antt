-- Blocks that are lent on. Assumes nothing.
use Rattle.std.proofs.Common.{◌∙◌}
use Rattle.machine.specs.Lending.{Lent}
use Rattle.machine.specs.declared.registers.Registers.{Registers}

pub lent_on : {B : Type 0} {x y z : Registers B} → Lent x y → Lent y z → Lent x z
lent_on p q = record { long = q.long ∙ p.long; lender = q.lender ∙ p.lender }
