use Rattle.std.proofs.Common.{◌<◌, [], length, sym, refl, ◌∙◌, arith}
use Rattle.std.proofs.lemmas.Bool.{eqb-true, eqb-false}
use Rattle.std.proofs.lemmas.List.{nil_from_length}
use Rattle.search.specs.Telling.{gathered_of}
use Rattle.search.proofs.Entering.{closed_none, closed_some, not_both}
use Rattle.search.proofs.state.Search.match_rest.Goals as goal

pub returns-then-is_empty : goal.returns-then-is_empty
returns-then-is_empty g c =
    let E = c.end_line.ensures in
    let v = c.end_line.new.self in
    record {
      state = E.state;
      taken = E.taken;
      on = λ F bytes hs R enough. (
        [],
        refl,
        closed_none g.B.Block.row g.B.Block.places g.met.B.Block.some c.args.self.now v E F bytes hs R
            (nil_from_length (gathered_of v) (eqb-true _ 0 (sym c.if-is_empty.ensures))),
      );
    }

pub returns-in_err-match_gathered : goal.returns-in_err-match_gathered
returns-in_err-match_gathered g c =
    let E = c.end_line.ensures in
    let M = c.match_gathered.ensures in
    let v = c.end_line.new.self in
    record {
      state = M.state ∙ E.state;
      taken = M.taken ∙ E.taken;
      on = λ F bytes hs R enough.
          let some : 0 < length (gathered_of v) = let n = eqb-false _ 0 (sym c.if-is_empty.ensures) in omega arith in
          let y = closed_some g.B.Block.row g.B.Block.places g.met.B.Block.some c.args.self.now v E F bytes hs R c.match_gathered.new.self
          (length c.args.blocks.now) c.match_gathered.result M some enough in
          absurd (not_both c.match_gathered.result _ _ y.1 c.in_err-match_gathered.was);
    }

pub returns : goal.returns
returns g c =
    let E = c.end_line.ensures in
    let M = c.match_gathered.ensures in
    let v = c.end_line.new.self in
    record {
      state = M.state ∙ E.state;
      taken = M.taken ∙ E.taken;
      on = λ F bytes hs R enough.
          let some : 0 < length (gathered_of v) = let n = eqb-false _ 0 (sym c.if-is_empty.ensures) in omega arith in
          let y = closed_some g.B.Block.row g.B.Block.places g.met.B.Block.some c.args.self.now v E F bytes hs R c.match_gathered.new.self
          (length c.args.blocks.now) c.match_gathered.result M some enough in
          (y.0, refl, y.2);
    }
