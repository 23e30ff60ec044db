use Rattle.std.proofs.Common.{arith}
use Rattle.flash.proofs.Pieces.{told, at_end, list_none, list_some, list_rest}
use Rattle.flash.proofs.feeding.list_flashes.Goals as goal

pub returns-in_default : goal.returns-in_default
returns-in_default g c =
    let a = c.in_ok-agree.ensures in
    let F = c.in_ok-n.ensures.3 in
    let b = c.args.recording.now in
    let any = c.new-reader.ensures.tells in
    let start = c.new-reader.ensures.start in
    let e = c.in_default.ensures b (told _ _ b _ _ _ start any F) (at_end _ _ b _ _ _ start any F) in
    (a.0, omega arith, a.2, list_none _ _ b _ _ _ start any F e, F.rest)

pub returns : goal.returns
returns g c =
    let a = c.in_ok-agree.ensures in
    let F = c.in_ok-n.ensures.3 in
    let b = c.args.recording.now in
    let any = c.new-reader.ensures.tells in
    let start = c.new-reader.ensures.start in
    let e = c.in-Some.ensures b (told _ _ b _ _ _ start any F) (at_end _ _ b _ _ _ start any F) in
    (a.0, omega arith, a.2, list_some _ _ b _ _ _ start any F c.in-Some.last (let k = F.few in omega arith) e, list_rest _ _ b _ _ _ start any F c.in-Some.last)
