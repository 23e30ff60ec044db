use Rattle.std.proofs.Common.{ap, ◌∙◌, length, arith}
use Rattle.std.proofs.lemmas.List.{length-replicate}
use Rattle.machine.proofs.Carrying.{none_enters}
use Rattle.machine.proofs.carries.Carries.new.Goals as goal

pub returns : goal.returns
returns c =
    let all = c.in_ok-bits.ensures.items_if_clones_equal (λ y e. e) in
    let long = ap length all ∙ length-replicate 1000 c.default.result in
    (omega (arith, long, c.in_ok-bits.bits.ok.0), none_enters 1000 c.default.result c.default.ensures.0 _ all)
