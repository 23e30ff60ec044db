use Rattle.std.proofs.Common.{◌+◌, ◌||◌, map, drop, sym, ap, ◌∙◌}
use mathlib.Core.Bool.{or_assoc}
use Rattle.std.proofs.lemmas.List.{drop_more}
use Rattle.form.specs.Meaning.{listed}
use Rattle.stream.specs.Sets.{has}
use Rattle.tree.specs.Stands.{item}
use Rattle.classes.proofs.listed.listed.Goals as goal

pub loop-r-preserved : goal.loop-r-preserved
loop-r-preserved c v l =
    let rs = c.args.ranges.now in
    let i = c.loop-r.r-index in
    let h = has c.loop-r.all v in
    ap (λ x. x || listed (map item (drop (i + 1) rs)) v) (c.union-all.ensures v l ∙ ap (λ x. h || x) (c.range.ensures v l))
    ∙ or_assoc h _ _
    ∙ ap (λ xs. h || listed (map item xs) v) (sym (drop_more rs i (record { low = 0; high = 0 }) c.loop-r-test.true))
    ∙ c.loop-r.invariant v l
