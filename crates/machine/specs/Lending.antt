-- Working blocks that are lent. Assumes nothing.
use Rattle.std.specs.Prelude.{◌≡◌, length}
use Rattle.machine.specs.declared.registers.Registers.{Registers}

-- the same blocks are lent, and as many
pub record Lent {B : Type 0} (old new : Registers B) : Type 0 where
  pub long : length new.blocks.now ≡ length old.blocks.now
  pub lender : new.blocks.ghost_name ≡ old.blocks.ghost_name
