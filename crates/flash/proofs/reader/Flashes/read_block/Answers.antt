use Rattle.std.proofs.Common.{◌≡◌, ℕ, min, length, Ok, Err, refl, subst, arith}
use Rattle.block.specs.Calls.{answered}
use Rattle.marks.specs.Listing.{ListsEnds}
use Rattle.flash.proofs.Pieces.{no_refusal, block_fed}
use Rattle.flash.proofs.reader.Flashes.read_block.Goals as goal

-- the table has room, so no end is refused
pub returns-in_err-count : goal.returns-in_err-count
returns-in_err-count g c =
    let row = g.B.Block.row in
    let m = c.in_ok-marks.marks in
    let k = c.in_ok-marks.ensures in
    let e : min (length c.args.bytes.now) (answered g.B.Block.places) ≡ length c.args.bytes.now = let f = c.requires.fills.0 in omega arith in
    let L = subst (λ (w : ℕ). ListsEnds row w m.complete c.in_ok-lines.lines c.list_to.new.lines c.args.ends.now c.list_to.new.table c.args.count (Err c.in_err-count.field-0.0)) e c.in_err-count.ensures in
    absurd
    (no_refusal row c.args.self.now c.args.self.now c.args.bytes.now m c.in_ok-lines.lines c.list_to.new.lines c.args.ends.now c.list_to.new.table c.args.count c.args.count
    k.0 k.1 c.in_ok-lines.ensures c.requires.room _ L.1)

pub returns : goal.returns
returns g c =
    let row = g.B.Block.row in
    let m = c.in_ok-marks.marks in
    let k = c.in_ok-marks.ensures in
    let e : min (length c.args.bytes.now) (answered g.B.Block.places) ≡ length c.args.bytes.now = let f = c.requires.fills.0 in omega arith in
    let L = subst (λ (w : ℕ). ListsEnds row w m.complete c.in_ok-lines.lines c.list_to.new.lines c.args.ends.now c.list_to.new.table c.args.count (Ok c.in_ok-count.count)) e c.in_ok-count.ensures in
    block_fed row c.args.self.now _ c.args.bytes.now m c.in_ok-lines.lines c.list_to.new.lines c.args.ends.now c.list_to.new.table c.args.count c.in_ok-count.count
    k.0 k.1 c.in_ok-lines.ensures L k.2 refl c.here.ensures.position c.here.ensures.line
