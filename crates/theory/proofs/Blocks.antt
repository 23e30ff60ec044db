-- The theorem for one block. Assumes nothing.
use mathlib.Core.Bool.{Bool}
use mathlib.Core.List.{List}
use Prim.Native.Nat.{◌+◌}
use Rattle.block.specs.Calls.{none_row}
use Rattle.theory.specs.Block.{bits, Has, OneBlock, passes}
use Rattle.theory.proofs.Pass.{sound_out, sound_carry, sound_after, still, full_out, full_carry}
use Rattle.theory.proofs.Rows.{laws, blank_none}

pub one_block : OneBlock
one_block t a W w F k m n settled =
    let L = laws t a W w in
    let r = passes t a W F k m n in
    let S = sound_after t a (a + W) (List Bool) (bits t a W) (Has a W) L (none_row W) (blank_none t a W) F k m n in
    let Q = still t a (a + W) (List Bool) (bits t a W) (Has a W) L F k r m settled in (
      λ p l. (
        sound_out t a (a + W) (List Bool) (bits t a W) (Has a W) L F k r m (Has a W m) S (λ q x. x) p,
        full_out t a (a + W) (List Bool) (bits t a W) (Has a W) L F k r m Q p l,
      ),
      λ p l. (
        sound_carry t a (a + W) (List Bool) (bits t a W) (Has a W) L F k r m (Has a W m) S (λ q x. x) p,
        full_carry t a (a + W) (List Bool) (bits t a W) (Has a W) L F k r m Q p l,
      ),
    )
