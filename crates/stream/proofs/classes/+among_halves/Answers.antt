use Rattle.std.proofs.Common.{◌≡◌, ℕ, suc, ◌-◌, ◌^◌, ◌<◌, sym, ap, ◌∙◌, subst, arith}
use Rattle.block.specs.Rows.{tab, bit_of}
use Rattle.stream.specs.Tables.{rows, held_by}
use Rattle.stream.proofs.Tables.{rows_get}
use Rattle.stream.proofs.Halves.{cut, among_one, among_halves, low_half, high_half, both_halves}
use Rattle.stream.proofs.classes.+among_halves.Goals as goal

pub among-returns-then-n-eq0 : goal.among-returns-then-n-eq0
among-returns-then-n-eq0 g t c =
    let w = g.B.Block.places in
    let set = c.args.set in
    let rs = rows g.B.Block.row c.args.basis.now in
    among_one w rs set _ c.if-set-eq0.false (subst (λ (n : ℕ). set < 2 ^ (2 ^ n)) c.if-n-eq0.true c.requires.set) c.all.ensures
    ∙ ap (λ (n : ℕ). tab w (λ i. bit_of set (held_by n rs i))) (sym c.if-n-eq0.true)

pub among-overflow_shl-half-2 : goal.among-overflow_shl-half-2
among-overflow_shl-half-2 g t c = let d = cut c.args.n c.args.set (omega arith) c.requires.few c.requires.set in omega arith

pub among-overflow_sub-half-2 : goal.among-overflow_sub-half-2
among-overflow_sub-half-2 g t c = (cut c.args.n c.args.set (omega arith) c.requires.few c.requires.set).room

pub among-overflow_shr-set : goal.among-overflow_shr-set
among-overflow_shr-set g t c = let d = cut c.args.n c.args.set (omega arith) c.requires.few c.requires.set in omega arith

pub among-halves-requires : goal.among-halves-requires
among-halves-requires g t c κs within = let d = cut c.args.n c.args.set (omega arith) c.requires.few c.requires.set in (omega arith, (within, (omega arith, (omega arith, (d.low, d.high)))))

pub among-returns : goal.among-returns
among-returns g t c =
    let n = c.args.n in
    let set = c.args.set in
    let w = g.B.Block.places in
    let rs = rows g.B.Block.row c.args.basis.now in
    let d = cut n set (omega arith) c.requires.few c.requires.set in
    let e : n ≡ suc (n - 1) = omega arith in
    among_halves w rs (n - 1) set _ d.is _ _ d.whole d.lowest _ c.halves.ensures ∙ ap (λ (k : ℕ). tab w (λ i. bit_of set (held_by k rs i))) (sym e)

pub halves-returns-then-high-eq0 : goal.halves-returns-then-high-eq0
halves-returns-then-high-eq0 g t c =
    let row = g.B.Block.row in
    let by = rows_get row c.args.basis.now c.args.n c.index-basis-n.result (omega arith) in
    low_half g.B.Block.places (rows row c.args.basis.now) c.args.n c.args.low c.args.high _ by c.if-high-eq0.true _ _ _
    c.among-then-high-eq0.ensures c.not.ensures c.and.ensures

pub halves-returns-then-low-eq0 : goal.halves-returns-then-low-eq0
halves-returns-then-low-eq0 g t c =
    let row = g.B.Block.row in
    let by = rows_get row c.args.basis.now c.args.n c.index-basis-n.result (omega arith) in
    high_half g.B.Block.places (rows row c.args.basis.now) c.args.n c.args.low c.args.high _ by c.if-low-eq0.true _ _
    c.among-then-low-eq0.ensures c.and-then-low-eq0.ensures

pub halves-returns : goal.halves-returns
halves-returns g t c =
    let row = g.B.Block.row in
    let by = rows_get row c.args.basis.now c.args.n c.index-basis-n.result (omega arith) in
    both_halves g.B.Block.places (rows row c.args.basis.now) c.args.n c.args.low c.args.high _ by _ _ _
    c.among-2.ensures c.among-3.ensures c.choose.ensures
