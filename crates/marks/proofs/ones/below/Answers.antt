-- A full group more, and then the bits that are left. Assumes nothing.
use Rattle.std.proofs.Common.{◌≡◌, ◌-◌, ◌*◌, ◌/◌, ◌%◌, min, false, ltb, sym, ap, ◌∙◌, arith, le-ltb}
use Rattle.std.proofs.lemmas.Nat.{one_shl}
use Rattle.block.specs.Rows.{tab}
use Rattle.block.specs.Calls.{answered}
use Rattle.block.proofs.Rows.{bit_at}
use Rattle.marks.proofs.Bytes.{put_last, below_whole}
use Rattle.marks.proofs.ones.below.Goals as goal

pub loop-k-init : goal.loop-k-init
loop-k-init g c = λ i h. bit_at g.B.Block.places _ (λ _. false) c.none-ones.ensures i h ∙ sym (le-ltb i 0 (omega arith))

pub returns : goal.returns
returns g c =
    let w = g.B.Block.places in
    let n = c.min-end.result in
    let e : n ≡ min c.args.n (answered w) = omega arith in
    let k : 8 * c.loop-k.k ≡ 8 * (n / 8) = omega arith in
    let r =
    put_last w _ _ n _ g.met.B.Block.whole_bytes (g.met.B.Block.wide c.put.result) (omega arith)
    (ap (λ x. x - 1) (one_shl (n % 8) 8 (omega arith))) c.put.ensures (λ i h. c.loop-k.invariant i h ∙ ap (ltb i) k)
    ∙ ap (λ x. tab w (λ i. ltb i x)) e
    in
    record { within = r; whole = λ h. r ∙ below_whole w c.args.n h }
