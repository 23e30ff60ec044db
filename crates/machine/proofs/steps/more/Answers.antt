use Rattle.std.proofs.Common.{false, ◌||◌, ap, ◌∙◌}
use Rattle.stream.specs.MatchStar.{star_row, star_out}
use Rattle.machine.proofs.steps.more.Goals as goal

pub returns : goal.returns
returns g c =
    let w = g.B.Block.places in
    let class = g.B.Block.row c.args.class in
    let once = c.once-stepped.ensures in
    let star = c.match_star-reached.ensures.formula in
    record {
      marks = star.0 ∙ ap (λ m. star_row w m class false) once.marks;
      out = λ j. once.out j || (star.1 ∙ ap (λ m. star_out w m class false) once.marks) j;
    }
