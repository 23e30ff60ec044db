-- A line feed more, and none more. Assumes nothing.
use Rattle.std.proofs.Common.{◌≡◌, ℕ, ◌+◌, ◌<◌, refl, sym, ◌∙◌, subst, arith}
use Rattle.block.specs.Calls.{answered}
use Rattle.marks.specs.Counting.{Counted}
use Rattle.marks.proofs.Stepping.{found, no_more}
use Rattle.marks.proofs.Passing.{feed_more, no_feed}
use Rattle.marks.proofs.count.Lines.reach.Goals as goal

pub loop-p-preserved : goal.loop-p-preserved
loop-p-preserved g c =
    let v = c.loop-p.invariant in
    let base = c.args.self.now.base in
    let p = c.in-Some.p in
    let f = found g.B.Block.row (answered g.B.Block.places) c.args.self.now.feeds c.args.to c.requires.seen c.loop-p.p-iterator c.next.new.self v.2 v.3 p c.in-Some.ensures.steps in
    let e : base + p + 1 ≡ base + c.next.new.self.from = let h = f.from_left in omega arith in (
      tt,
      tt,
      f.block_left,
      f.to_left,
      let h = f.from_left in let k = f.from in omega arith,
      let h = f.from_left in let k = f.below in omega arith,
      let h = f.from_left in let k = f.from in omega arith,
      let h = f.from_left in omega arith,
      λ t feeds from.
          subst (λ (q : ℕ). Counted t (record { number = c.loop-p.line.number + 1; start = base + p + 1 }) q) e
          (feed_more t c.loop-p.line (base + p) (sym (feeds p f.below) ∙ f.here)
          (no_feed t c.loop-p.line base c.loop-p.p-iterator.from p f.from (λ i h l. sym (feeds i (let k = f.below in omega arith)) ∙ f.none i h l) (v.8 t feeds from))),
    )

pub returns : goal.returns
returns g c = λ w l.
    let v = c.loop-p.invariant in
    let none = no_more g.B.Block.row (answered g.B.Block.places) c.args.self.now.feeds c.args.to c.requires.seen c.loop-p.p-iterator c.next.new.self v.2 v.3 c.in-None.ensures.steps in
    record {
      feeds = refl {a = c.args.self.now.feeds};
      base = refl {a = c.args.self.now.base};
      at = omega arith;
      counts = λ t C.
          let feeds = λ (i : ℕ) (h : i < c.args.to). C.feeds i (omega arith) in
          let K = no_feed t c.loop-p.line c.args.self.now.base c.loop-p.p-iterator.from c.args.to v.5 (λ i h k. sym (feeds i k) ∙ none i h k)
          (v.8 t feeds (record { line = C.line; start = C.start })) in
          record { feeds = C.feeds; line = K.line; start = K.start };
    }
