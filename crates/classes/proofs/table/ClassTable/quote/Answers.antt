use Rattle.std.proofs.Common.{[], ◌∷◌, map, get_or, take, sym, ap, ◌∙◌, subst}
use Rattle.std.proofs.lemmas.List.{take_more, map-append}
use Rattle.form.specs.Positions.{only}
use Rattle.classes.specs.Numbered.{Adds}
use Rattle.classes.proofs.Adding.{put_adds, join_adds}
use Rattle.classes.proofs.table.ClassTable.quote.Goals as goal

pub loop-byte-preserved : goal.loop-byte-preserved
loop-byte-preserved c =
    let x = c.args.self.now in
    let bs = c.args.bytes.now in
    let i = c.loop-byte.byte-index in
    let b = get_or bs i 0 in
    subst (λ cs. Adds x c.put.new.self cs) (sym (ap (map only) (take_more bs i 0 c.loop-byte-test.true) ∙ map-append only (take i bs) (b ∷ [])))
    (join_adds x c.loop-byte.self c.put.new.self (map only (take i bs)) (only b ∷ []) c.loop-byte.invariant
    (put_adds c.loop-byte.self c.put.new.self c.quoted.result (only b) c.put.ensures c.quoted.ensures))
