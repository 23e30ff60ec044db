use Rattle.std.proofs.Common.{Bool, cond, [], ◌∷◌, ◌++◌, length, sym, refl, ap, ◌∙◌, arith, length-append}
use Rattle.std.proofs.lemmas.List.{append-nil}
use Rattle.form.specs.Meaning.{feed}
use Rattle.search.specs.Telling.{gathered_of}
use Rattle.search.proofs.state.Search.end_line.Goals as goal

pub returns-then-not-at_line_start : goal.returns-then-not-at_line_start
returns-then-not-at_line_start g c =
    let s = c.args.self.now in
    let G = c.gather.ensures in
    record {
      state = G.state;
      finder = G.finder;
      taken = G.taken;
      line = λ F bytes hs ws R.
          let no = sym (c.if-not-at_line_start.ensures F bytes hs ws R) in
          let k = G.kept (omega arith) in (
            k ∙ ap (λ (b : Bool). gathered_of s ++ cond b [] (feed ∷ [])) (sym no),
            let e = ap length k ∙ length-append (gathered_of s) (feed ∷ []) in omega arith,
          );
    }

pub returns-else-not-at_line_start : goal.returns-else-not-at_line_start
returns-else-not-at_line_start g c =
    let s = c.args.self.now in
    record {
      state = refl;
      finder = refl;
      taken = refl;
      line = λ F bytes hs ws R.
          let yes = sym (c.if-not-at_line_start.ensures F bytes hs ws R) in (
            sym (append-nil (gathered_of s)) ∙ ap (λ (b : Bool). gathered_of s ++ cond b [] (feed ∷ [])) (sym yes),
            omega arith,
          );
    }
