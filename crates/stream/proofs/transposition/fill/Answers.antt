use Rattle.std.proofs.Common.{◌+◌, sym, subst₂, arith, rules}
use Rattle.stream.proofs.Packs.{Turned, begun, turn_fits, turn_part, turn_full, end_whole, end_part}
use Rattle.stream.proofs.transposition.fill.Goals as goal
use Rattle.stream.proofs.transposition.fill.Goals.{then-i, else-i}

pub loop-i-init : goal.loop-i-init
loop-i-init g c = begun g.B.Block.row g.B.Block.places c.args.bytes.now c.clear.new.blocks c.clear.ensures.eight c.clear.ensures.first

pub overflow_add-gathered : goal.overflow_add-gathered
overflow_add-gathered g c =
    let byte = c.type_inv.bytes c.loop-i.i in
    let f = turn_fits g.B.Block.row g.B.Block.places c.args.bytes.now c.loop-i.i c.loop-i.blocks c.loop-i.gathered c.loop-i.invariant (omega arith) in
    search rules

pub loop-i-preserved : goal.loop-i-preserved
loop-i-preserved g c =
    let row = g.B.Block.row in
    let w = g.B.Block.places in
    let bytes = c.args.bytes.now in
    let i = c.loop-i.i in
    let T = c.loop-i.invariant in
    let byte = c.type_inv.bytes i in
    elim c.if-i.branch [
      | then-i x ↦
          subst₂ (λ t m. Turned row w bytes (i + 1) t m) (sym x.blocks-is) (sym x.gathered-is)
          (turn_full row w bytes i c.loop-i.blocks c.loop-i.gathered T (omega arith) x.if-i.true
          x.deliver.new.blocks x.deliver.ensures.eight x.deliver.ensures.inside x.deliver.ensures.outside)
      | else-i x ↦
          subst₂ (λ t m. Turned row w bytes (i + 1) t m) (sym x.blocks-is) (sym x.gathered-is)
          (turn_part row w bytes i c.loop-i.blocks c.loop-i.gathered T (omega arith) x.if-i.false)
    ]

pub returns-then-bytes-ne0 : goal.returns-then-bytes-ne0
returns-then-bytes-ne0 g c =
    let d = c.deliver-then-bytes-ne0 in
    record {
      eight = d.ensures.eight;
      first = end_part g.B.Block.row g.B.Block.places c.args.bytes.now c.loop-i.i c.loop-i.blocks c.loop-i.gathered c.loop-i.invariant (omega arith)
          g.met.B.Block.wide d.new.blocks d.ensures.eight d.ensures.inside d.ensures.outside;
    }

pub returns-else-bytes-ne0 : goal.returns-else-bytes-ne0
returns-else-bytes-ne0 g c =
    record {
      eight = c.loop-i.invariant.eight;
      first = end_whole g.B.Block.row g.B.Block.places c.args.bytes.now c.loop-i.i c.loop-i.blocks c.loop-i.gathered c.loop-i.invariant (omega arith)
          g.met.B.Block.wide (omega arith);
    }
