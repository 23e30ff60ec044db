use Rattle.std.proofs.Common.{◌≡◌, ◌%◌, length, ap, ◌∙◌, rules, slice_index}
use Rattle.block.specs.Rows.{bit_of}
use Rattle.conform.specs.Judged.{repeated}
use Rattle.conform.proofs.Bytes.{repeated_here}
use Rattle.conform.proofs.judge_row.Goals as goal

pub returns : goal.returns
returns g c =
    let bytes = c.args.bytes.now in
    c.judge.ensures (repeated bytes)
    (λ k byte served post j h. let e : byte ≡ slice_index bytes (k % length bytes) = search rules in ap (λ n. bit_of n j) e ∙ repeated_here k j h bytes)
