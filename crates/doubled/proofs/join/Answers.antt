use Rattle.std.proofs.Common.{true, false, not, ◌&&◌, ◌||◌}
use Rattle.block.specs.Calls.{differ}
use Rattle.doubled.proofs.Halves.{halves}
use Rattle.doubled.proofs.join.Goals as goal

pub returns : goal.returns
returns g c =
    let v = g.B.Block.places in
    let x = g.B.Block.row c.args.early in
    let y = g.B.Block.row c.args.late in
    let l = g.met.B.Block.wide c.args.early in
    record {
      none = halves v x x y y l l (λ p q. false) x y;
      all = halves v x x y y l l (λ p q. true) x y;
      and = λ a b c d la lb. halves v a b c d la lb ◌&&◌ x y;
      or = λ a b c d la lb. halves v a b c d la lb ◌||◌ x y;
      xor = λ a b c d la lb. halves v a b c d la lb differ x y;
      not = λ a c la. halves v a a c c la la (λ p q. not p) x y;
    }
