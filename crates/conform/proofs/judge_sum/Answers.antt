use Rattle.std.proofs.Common.{refl, inl, arith}
use Rattle.std.proofs.lemmas.Result.{err_from_is_err_and}
use Rattle.block.specs.Rows.{bit}
use Rattle.block.specs.Calls.{Served}
use Rattle.block.specs.Sums.{over, sum}
use Rattle.conform.proofs.Bytes.{agree_more, group_same, group_differs}
use Rattle.conform.proofs.Carries.{sum_here, over_here}
use Rattle.conform.proofs.judge_sum.Goals as goal

pub loop-k-init : goal.loop-k-init
unfolding over
loop-k-init g c = (λ i h. absurd (omega arith), refl)

pub loop-k-preserved : goal.loop-k-preserved
loop-k-preserved g c =
    let v = g.B.Block.places in
    let r = g.B.Block.row in
    let k = c.loop-k.k in
    let x = bit (r c.args.a) in
    let y = bit (r c.args.b) in
    let enter = c.args.enter in
    let s = c.carrying_add-want.result in
    let served : Served v k = omega arith in
    let xs = c.read.ensures.inside served in
    let ys = c.read-in-loop-k.ensures.inside served in
    let into = c.loop-k.invariant.1 in
    let adds = c.carrying_add-want.ensures in
    let here = sum_here x y enter k _ _ s.0 _ s.1 (omega arith) (omega arith) (omega arith) xs ys into adds in (
      agree_more k _ (sum x y enter) c.loop-k.invariant.0
          (group_same v (r c.args.answer.0) k s.0 _ (sum x y enter) served c.read-in-loop-k-2.ensures here c.in_ok-expect.ensures.passed),
      over_here x y enter k _ _ s.0 _ s.1 (omega arith) (omega arith) (omega arith) xs ys into adds,
    )

pub returns-in_err-expect : goal.returns-in_err-expect
returns-in_err-expect g c =
    let v = g.B.Block.places in
    let r = g.B.Block.row in
    let k = c.loop-k.k in
    let x = bit (r c.args.a) in
    let y = bit (r c.args.b) in
    let enter = c.args.enter in
    let s = c.carrying_add-want.result in
    let served : Served v k = omega arith in
    let xs = c.read.ensures.inside served in
    let ys = c.read-in-loop-k.ensures.inside served in
    let e = c.in_err-expect.ensures in
    let p = err_from_is_err_and c.from_residual.result c.from_residual.ensures.1 in
    let here = sum_here x y enter k _ _ s.0 _ s.1 (omega arith) (omega arith) (omega arith) xs ys c.loop-k.invariant.1 c.carrying_add-want.ensures in
    let differs = group_differs v (r c.args.answer.0) k s.0 _ (sum x y enter) served c.read-in-loop-k-2.ensures here e.passed (omega arith) (omega arith) c.loop-k.invariant.0 in
    rw (p.1, p.2, e.found.0, e.found.1) (refl, inl differs)
