use Rattle.std.proofs.Common.{◌≡◌, ◌+◌, ◌*◌, ◌/◌, ◌%◌, ◌^◌, ◌<◌, sym, ap, ◌∙◌, eqb, arith, rules}
use lib.Bits.{bit_or, or_lt, or_shifted}
use Rattle.block.specs.Rows.{worth}
use Rattle.block.proofs.Numbers.{row_advance}
use Rattle.word.proofs.WordBlock.advance.Goals as goal

pub returns : goal.returns
returns c =
    let x = c.args.self.bits in
    let e = c.from.result in
    let enter = c.args.enter in
    let out = eqb (x / 2 ^ 63) 1 in
    let bit : e < 2 ^ 1 = search rules in
    let even : (x * 2) % 2 ^ 64 ≡ x % 2 ^ 63 * 2 ^ 1 = omega arith in
    let sum : bit_or ((x * 2) % 2 ^ 64) e ≡ (x * 2) % 2 ^ 64 + e =
    ap (λ n. bit_or n e) even ∙ or_shifted (x % 2 ^ 63) 1 e bit ∙ sym (ap (λ n. n + e) even) in
    let hs : (x * 2) % 2 ^ 64 + e < 2 ^ 64 = search rules in
    let moves : (x * 2) % 2 ^ 64 + e + worth out * 2 ^ 64 ≡ 2 * x + worth enter = search rules in
    rw sum (row_advance 64 x ((x * 2) % 2 ^ 64 + e) enter out (omega arith) hs moves)

pub invariant_of-result : goal.invariant_of-result
invariant_of-result c =
    let bit : c.from.result < 2 ^ 64 = search rules in
    record { fits = or_lt 64 ((c.args.self.bits * 2) % 2 ^ 64) c.from.result (omega arith) bit }
