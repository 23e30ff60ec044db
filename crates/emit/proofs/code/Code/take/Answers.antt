use Rattle.std.proofs.Common.{refl, arith}
use Rattle.emit.proofs.Joining.{carry_taken, leaf_writes, take-leaves, take-stars, take-unions, take_own, take_steps, take-into}
use Rattle.emit.proofs.code.Code.take.Goals as goal

pub returns : goal.returns
returns c few d =
    let b = c.args.stretched in
    let n = c.args.class in
    let at = c.saturating_add-class.ensures in
    leaf_writes d _ c.taking.result _ _ _ _ c.args.into (take-leaves b n) (take-stars b n) (take-unions b n) (take_own b n)
    (take_steps n _ _ _ (omega arith) c.fresh-carry.ensures.here b _ _ _ d c.taking.ensures)
    (λ r. take-into n _ _ _ (omega arith) c.fresh-carry.ensures.here b _ _ _ d r c.taking.ensures)
    (carry_taken _ _ refl c.fresh-carry.ensures.counted refl refl) c.put.ensures (c.stay.ensures d)
