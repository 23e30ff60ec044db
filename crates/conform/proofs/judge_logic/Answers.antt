use Rattle.std.proofs.Common.{◌≡◌, ℕ, ◌<◌, rules, sym, ap₂, ◌∙◌}
use Rattle.block.specs.Calls.{Read}
use Rattle.block.specs.Rows.{bit, bit_of}
use Rattle.conform.specs.Judged.{made}
use Rattle.conform.proofs.judge_logic.Goals as goal

pub returns : goal.returns
returns g c =
    let v = g.B.Block.places in
    let r = g.B.Block.row in
    let op = c.args.op in
    let a = r c.args.a in
    let b = r c.args.b in
    rw (sym c.from.ensures) (c.judge.ensures (λ i. made op (bit a i) (bit b i))
    (λ k byte served post j h.
    let e : (x : ℕ) × (y : ℕ) × Read v a k x × Read v b k y × ((i : ℕ) → i < 8 → bit_of byte i ≡ made op (bit_of x i) (bit_of y i)) = search rules in
    e.4 j h ∙ ap₂ (made op) (e.2.inside served j h) (e.3.inside served j h)))
