use Rattle.std.proofs.Common.{◌≡◌, sym, ap, ◌∙◌, subst, arith}
use Rattle.std.specs.Slice.Iter.{chunks_rest, chunks_size}
use Rattle.flash.proofs.Pieces.{set_out, go_on, Going}
use Rattle.flash.proofs.reader.Flashes.feed.Goals as goal

pub loop-bytes-init : goal.loop-bytes-init
loop-bytes-init g c =
    let same = c.into_iter-bytes-iterator.ensures.into_iter_gives in
    let size : chunks_size c.into_iter-bytes-iterator.result ≡ c.step.result = ap chunks_size same ∙ c.chunks-bytes-items.ensures.size in
    let rest : chunks_rest c.into_iter-bytes-iterator.result ≡ c.args.piece.now = ap chunks_rest same ∙ c.chunks-bytes-items.ensures.rest in (
      let k = c.step.ensures.some in omega arith,
      tt,
      λ n h. c.step.ensures.fills n (omega arith),
      subst (λ left. Going c.args.self.now c.args.self.now c.args.piece.now left c.args.ends.now c.args.ends.now 0) (sym rest) (set_out c.args.self.now c.args.piece.now c.args.ends.now),
    )

pub read_block-requires-clause-fills : goal.read_block-requires-clause-fills
read_block-requires-clause-fills g c = let s = c.in-Some.ensures.steps in c.loop-bytes.invariant.2 _ (let k = s.1.1 in omega arith)

pub loop-bytes-preserved : goal.loop-bytes-preserved
loop-bytes-preserved g c =
    let s = c.in-Some.ensures.steps in
    let v = c.loop-bytes.invariant in
    let size = s.0 in (
      let k = v.0 in omega arith,
      tt,
      λ n h. v.2 n (omega arith),
      go_on c.args.self.now c.loop-bytes.self c.read_block.new.self c.args.piece.now (chunks_rest c.loop-bytes.bytes-iterator) c.in-Some.bytes.now
          (chunks_rest c.next.new.self) c.args.ends.now c.loop-bytes.ends c.read_block.new.ends c.loop-bytes.count c.in_ok-count.count s.1.0 v.3 c.in_ok-count.ensures,
    )
