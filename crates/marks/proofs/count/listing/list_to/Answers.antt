-- An end more, one that does not fit, and no end more. Assumes nothing.
use Rattle.std.proofs.Common.{◌≡◌, ℕ, min, Ok, Err, subst, arith}
use Rattle.block.specs.Calls.{answered}
use Rattle.refusal.specs.declared.Refusal.TheVariants.{TableTooShort}
use Rattle.marks.specs.Listing.{ListsEnds}
use Rattle.marks.proofs.Stepping.{found, no_more}
use Rattle.marks.proofs.Listed.{turn, refused, ended}
use Rattle.marks.proofs.count.listing.list_to.Goals as goal

pub returns-then-got-table : goal.returns-then-got-table
returns-then-got-table g c =
    let row = g.B.Block.row in
    let w = c.min-end.result in
    let v = c.loop-p.invariant in
    let p = c.in-Some.p in
    let f = found row (answered g.B.Block.places) c.args.ends w (omega arith) c.loop-p.p-iterator c.next.new.self v.2 v.3 p c.in-Some.ensures.steps in
    let e : w ≡ min c.args.to (answered g.B.Block.places) = omega arith in
    subst (λ (n : ℕ). ListsEnds row n c.args.ends c.args.lines.now c.reach.new.self c.args.table.now c.loop-p.table c.args.count (Err TableTooShort)) e
    (refused row w c.args.ends c.args.lines.now c.args.table.now c.args.count c.loop-p.lines c.loop-p.p-iterator.from c.loop-p.table c.loop-p.got v.4
    c.reach.new.self p (c.reach.ensures w (let l = f.below in omega arith)) f.from f.below f.here f.none (omega arith))

pub loop-p-preserved : goal.loop-p-preserved
loop-p-preserved g c =
    let row = g.B.Block.row in
    let w = c.min-end.result in
    let v = c.loop-p.invariant in
    let p = c.in-Some.p in
    let f = found row (answered g.B.Block.places) c.args.ends w (omega arith) c.loop-p.p-iterator c.next.new.self v.2 v.3 p c.in-Some.ensures.steps in (
      tt,
      tt,
      f.block_left,
      f.to_left,
      rw f.from_left
          (turn row w c.args.ends c.args.lines.now c.args.table.now c.args.count c.loop-p.lines c.loop-p.p-iterator.from c.loop-p.table c.loop-p.got v.4
          c.reach.new.self p (c.reach.ensures w (let l = f.below in omega arith)) f.from f.below f.here f.none c.here.result c.end.result c.loop-p.auto.table (omega arith)
          c.here.ensures.position c.here.ensures.line c.end.ensures),
    )

pub returns : goal.returns
returns g c =
    let row = g.B.Block.row in
    let w = c.min-end.result in
    let v = c.loop-p.invariant in
    let none = no_more row (answered g.B.Block.places) c.args.ends w (omega arith) c.loop-p.p-iterator c.next.new.self v.2 v.3 c.in-None.ensures.steps in
    let e : w ≡ min c.args.to (answered g.B.Block.places) = omega arith in
    subst (λ (n : ℕ). ListsEnds row n c.args.ends c.args.lines.now c.reach-2.new.self c.args.table.now c.loop-p.table c.args.count (Ok c.loop-p.got)) e
    (ended row w c.args.ends c.args.lines.now c.args.table.now c.args.count c.loop-p.lines c.loop-p.p-iterator.from c.loop-p.table c.loop-p.got v.4
    c.reach-2.new.self (c.reach-2.ensures w (omega arith)) none)
