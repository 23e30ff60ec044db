use Rattle.std.proofs.Common.{Bool, List, sym, subst₂}
use Rattle.stream.specs.MatchStar.{Star}
use Rattle.stream.proofs.Stars.{star_formula, star_means}
use Rattle.stream.proofs.star.match_star.Goals as goal

pub returns : goal.returns
returns g c =
    let w = g.B.Block.places in
    let row = g.B.Block.row in
    let wide = g.met.B.Block.wide in
    let f = star_formula w (row c.args.marks) (row c.args.class) _ _ _ _ c.args.carry _ (wide c.add-sum.result.0)
    c.and.ensures c.add-sum.ensures c.xor.ensures c.or.ensures in
    record {
      formula = f;
      meaning =
          subst₂ (λ (r : List Bool) (out : Bool). Star w (row c.args.marks) (row c.args.class) c.args.carry r out) (sym f.0) (sym f.1)
          (star_means w (row c.args.marks) (row c.args.class) c.args.carry (wide c.args.marks));
    }
