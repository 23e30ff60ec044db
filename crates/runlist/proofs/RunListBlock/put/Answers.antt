use Rattle.std.proofs.Common.{◌≡◌, ℕ, ◌+◌, ◌-◌, ◌*◌, ap, ◌∙◌, arith}
use Rattle.runlist.specs.Lists.{lit}
use Rattle.runlist.proofs.Rows.{row_put}
use Rattle.runlist.proofs.RunListBlock.put.Goals as goal

pub returns : goal.returns
returns c =
    let k = c.args.k in
    let early = c.copy.new.self.list in
    let new = c.copy-2.new.self.list in
    row_put 64 k c.args.byte (lit c.args.self) (lit new) (omega arith)
    (λ j h.
    let s : 8 * k + j ≡ c.copy.new.self.place + j = omega arith in
    c.copy-2.ensures.before (8 * k + j) (omega arith) ∙ ap (lit c.push_byte.new.self.list) s ∙ c.push_byte.ensures.here j h)
    (λ i h.
    let s : i ≡ c.new-builder.result.place + i = omega arith in
    let t : c.to.result.place + i ≡ i = omega arith in
    c.copy-2.ensures.before i (omega arith) ∙ c.push_byte.ensures.before i (omega arith) ∙ ap (lit early) s ∙ c.copy.ensures.here i (omega arith)
    ∙ (λ z. lit (c.to.ensures.list z) (t z)))
    (λ i h l.
    let j : ℕ = i - (8 * k + 8) in
    let s : i ≡ c.push_byte.new.self.place + j = omega arith in
    let t : c.to-2.result.place + j ≡ i = omega arith in
    ap (lit new) s ∙ c.copy-2.ensures.here j (omega arith) ∙ (λ z. lit (c.to-2.ensures.list z) (t z)))
