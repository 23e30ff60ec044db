use Rattle.std.proofs.Common.{◌≡◌, ◌+◌, ◌++◌, length, ap, ◌∙◌, arith}
use Rattle.theory.specs.Passes.{stars}
use Rattle.theory.specs.Written.{written}
use Rattle.program.specs.Compile.{stars_at}
use Rattle.program.specs.Sizes.{class_count, form_program}
use Rattle.program.proofs.Sizes.{form_rows_lem}
use Rattle.classes.proofs.Adding.{are_long}
use Rattle.emit.proofs.Entire.{whole}
use Rattle.emit.proofs.compiled.Compiled.compile.Goals as goal

pub returns : goal.returns
returns c F h light =
    let filled = c.fill.ensures F h light in
    let count : length c.sets-classes.result.now ≡ class_count F = ap length c.sets-classes.ensures ∙ are_long _ _ filled in
    let rows = form_rows_lem F in
    let first : c.saturating_add-first.result ≡ stars_at (class_count F) = c.saturating_add-first.ensures ∙ omega arith in
    let w₁ =
    whole F c.form.result 0 c.outermost.result c.begin.new.self c.form.new.self light c.outermost.ensures c.begin.ensures.steps c.begin.ensures.carry
    (c.begin.ensures.star ∙ first) c.begin.ensures.gather (omega arith) (c.form.ensures F h) in
    let behind : c.form.new.self.star ≡ stars_at (class_count F) + stars (written F) =
    w₁.rows ∙ ap (λ n. n + stars (written F)) (c.begin.ensures.star ∙ first) in
    let w₂ =
    whole F c.form-2.result (stars_at (class_count F) + stars (written F)) c.outermost-2.result c.begin-2.new.self c.form-2.new.self light c.outermost-2.ensures c.begin-2.ensures.steps c.begin-2.ensures.carry
    (c.begin-2.ensures.star ∙ first) (c.begin-2.ensures.gather ∙ behind) (omega arith) (c.form-2.ensures F h) in
    record {
      program = w₂.written ∙ ap (λ l. l ++ form_program F) c.begin-2.ensures.steps;
      sets = filled;
      classes = count;
      stars = c.saturating_sub.ensures ∙ omega arith;
      carries = w₂.carries ∙ omega (arith, c.begin-2.ensures.carry);
      rows = w₂.gathering ∙ omega (arith, c.begin-2.ensures.gather);
    }
