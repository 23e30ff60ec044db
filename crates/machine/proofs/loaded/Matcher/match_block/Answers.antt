use Rattle.std.proofs.Common.{◌≡◌, ℕ, ◌<◌, ◌≤◌, List, length, get_or, refl, ◌∙◌, subst, arith}
use Rattle.block.specs.Calls.{widest}
use Rattle.form.specs.Form.{Form}
use Rattle.stream.specs.Tables.{rows}
use Rattle.stream.specs.declared.set.ByteSet.{ByteSet}
use Rattle.machine.specs.Matching.{Runs, Matched}
use Rattle.machine.specs.Ruling.{Rules}
use Rattle.machine.proofs.Ready.{matches_full, matches_last, kept_runs}
use Rattle.machine.proofs.loaded.Matcher.match_block.Goals as goal

pub returns-then-piece-width : goal.returns-then-piece-width
returns-then-piece-width g c =
    let row = g.B.Block.row in
    let w = g.B.Block.places in
    let m = c.args.self.now in
    let piece = c.args.piece.now in
    let A = c.in_ok-agree.ensures in
    let some = g.met.B.Block.some in
    let S = c.in_ok-feeds.ensures in
    let byte : (i : ℕ) → get_or piece i 0 < 256 = λ i. let f = c.type_inv.piece i in omega arith in
    let table = rows row c.rule.new.blocks in
    let R = subst (λ (s : List ByteSet). Rules w piece m.starts s table) c.sets.ensures S.0 in
    let K = c.run-ends.ensures.keeps in
    let width = c.width.ensures in
    let test = c.if-piece-width.true in
    let full : length piece ≡ w = let a = A.0 in omega arith in (
      A.0,
      A.1,
      A.2,
      record { tree = K.tree; root = K.root; weight = K.weight; compiled = K.compiled; sizes = K.sizes },
      S.1,
      matches_full piece w (omega arith) m byte table R (row c.run-ends.result) (g.met.B.Block.wide _) _ c.run-ends.ensures.found full _
          record { tree = K.tree; root = K.root; weight = K.weight; compiled = K.compiled; sizes = K.sizes }
          c.in_ok-feeds.behind S.2 c.hand_on.ensures.entering refl,
    )

pub returns : goal.returns
returns g c =
    let row = g.B.Block.row in
    let w = g.B.Block.places in
    let m = c.args.self.now in
    let piece = c.args.piece.now in
    let A = c.in_ok-agree.ensures in
    let some = g.met.B.Block.some in
    let S = c.in_ok-feeds.ensures in
    let byte : (i : ℕ) → get_or piece i 0 < 256 = λ i. let f = c.type_inv.piece i in omega arith in
    let table = rows row c.rule.new.blocks in
    let R = subst (λ (s : List ByteSet). Rules w piece m.starts s table) c.sets.ensures S.0 in
    let K = c.run-ends.ensures.keeps in
    let L = c.rewind.ensures.keeps in
    let width = c.width.ensures in
    let test = c.if-piece-width.false in
    let seen : w ≤ widest = let a = A.0 in omega arith in
    let short : length piece < w = let a = A.2 in omega arith in
    let fresh : (F : Form) → Runs F m → Matched F _ c.rewind.new.self =
    λ F runs. c.rewind.ensures.matched F (let r = kept_runs F m c.run-ends.new.self K runs in record { compiled = r.compiled; nested = r.nested }) in (
      A.0,
      A.1,
      A.2,
      record { tree = L.tree ∙ K.tree; root = L.root ∙ K.root; weight = L.weight ∙ K.weight; compiled = L.compiled ∙ K.compiled; sizes = L.sizes ∙ K.sizes },
      S.1,
      matches_last piece w (omega arith) m byte table R (row c.run-ends.result) (g.met.B.Block.wide _) _ c.run-ends.ensures.found short c.rewind.new.self
          fresh (row c.and-ends.result) (row c.below.result) (g.met.B.Block.wide _) c.and-ends.ensures (c.below.ensures.whole seen),
    )
