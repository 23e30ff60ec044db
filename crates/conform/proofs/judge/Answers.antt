use Rattle.std.proofs.Common.{refl, arith}
use Rattle.std.proofs.lemmas.Result.{err_from_is_err_and}
use Rattle.block.specs.Calls.{Served}
use Rattle.conform.proofs.Bytes.{agree_more, group_same, group_differs}
use Rattle.conform.proofs.judge.Goals as goal

pub returns-in_err-expect : goal.returns-in_err-expect
returns-in_err-expect g c row want =
    let v = g.B.Block.places in
    let k = c.loop-k.k in
    let served : Served v k = omega arith in
    let x = g.B.Block.row c.args.answer in
    let e = c.in_err-expect.ensures in
    let p = err_from_is_err_and c.from_residual.result c.from_residual.ensures.1 in
    let here = group_differs v x k c.want.result _ row served c.read.ensures (want k _ served c.want.ensures) e.passed (omega arith) (omega arith) (c.loop-k.invariant row want) in
    rw (p.1, p.2, e.found.0, e.found.1) (refl, here)

pub loop-k-preserved : goal.loop-k-preserved
loop-k-preserved g c row want =
    let v = g.B.Block.places in
    let k = c.loop-k.k in
    let served : Served v k = omega arith in
    agree_more k _ row (c.loop-k.invariant row want)
    (group_same v (g.B.Block.row c.args.answer) k c.want.result _ row served c.read.ensures (want k _ served c.want.ensures) c.in_ok-expect.ensures.passed)

pub returns : goal.returns
returns g c row want i h = c.loop-k.invariant row want i (omega (arith, g.met.B.Block.whole_bytes))
