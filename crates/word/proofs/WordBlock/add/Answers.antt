use Rattle.std.proofs.Common.{◌≡◌, ◌+◌, ◌*◌, ◌^◌, ◌<◌, rules}
use Rattle.block.specs.Rows.{worth}
use Rattle.block.proofs.Numbers.{row_add}
use Rattle.word.proofs.WordBlock.add.Goals as goal

pub returns : goal.returns
returns c =
    let x = c.args.self.bits in
    let y = c.args.other.bits in
    let s = c.carrying_add-bits.result.0 in
    let enter = c.args.enter in
    let out = c.carrying_add-bits.result.1 in
    let hs : s < 2 ^ 64 = search rules in
    let adds : s + worth out * 2 ^ 64 ≡ x + y + worth enter = search rules in
    row_add 64 x y s enter out c.args.self.fits c.args.other.fits hs adds
