use Rattle.std.proofs.Common.{◌≡◌, ℕ, ◌<◌, ◌≤◌, true, false, ◌⊎◌, sym, refl, ap, ◌∙◌, subst, inl, inr, arith}
use Rattle.std.proofs.lemmas.Option.{none-some}
use Rattle.block.specs.Rows.{bit}
use Rattle.block.specs.Calls.{answered, and_row}
use Rattle.marks.specs.Counting.{Counts, Moves}
use Rattle.search.specs.Finding.{padded, ends_in}
use Rattle.search.proofs.Finding.{ends_read, ends_written, dry, first, handed, never_past, never_unlined, cleared_bits, lined_as}
use Rattle.search.proofs.finder.Finder.draw.Goals as goal

pub returns-in_err-p : goal.returns-in_err-p
returns-in_err-p g c =
    rw c.from_residual.ensures (
      refl,
      λ F m hs ws X.
          let row = g.B.Block.row in
          let w = g.B.Block.places in
          let x = c.args.self.now in
          let e = ends_read row w g.met.B.Block.some x c.index.result.now c.index.ensures in
          dry row w g.met.B.Block.some x F m hs ws X (λ i l. ap (λ r. bit r i) e ∙ c.in_err-p.ensures i (omega arith) (omega arith)),
    )

pub returns-in_err-lines : goal.returns-in_err-lines
returns-in_err-lines g c =
    rw c.from_residual-in_err-lines.ensures (
      refl,
      λ F m hs ws X.
          let row = g.B.Block.row in
          let w = g.B.Block.places in
          let x = c.args.self.now in
          let e = ends_read row w g.met.B.Block.some x c.index.result.now c.index.ensures in
          let h = c.in_ok-p.ensures in
          let inside : c.in_ok-p.p < w = omega arith in
          absurd (never_unlined row w g.met.B.Block.some x F m hs ws X c.in_ok-p.p inside (ap (λ r. bit r c.in_ok-p.p) e ∙ h.2) c.in_err-lines.was),
    )

pub returns-in_err-end : goal.returns-in_err-end
returns-in_err-end g c =
    let P = c.in_err-end.ensures in
    rw c.from_residual-in_err-end.ensures (
      refl,
      λ F m hs ws X.
          let row = g.B.Block.row in
          let w = g.B.Block.places in
          let x = c.args.self.now in
          let e = ends_read row w g.met.B.Block.some x c.index.result.now c.index.ensures in
          let h = c.in_ok-p.ensures in
          let inside : c.in_ok-p.p < w = omega arith in
          let past : (c.in_ok-p.p < c.in_ok-lines.lines.at) ⊎ (w ≤ c.in_ok-p.p) = elim P.0 [ inl l ↦ inl l | inr l ↦ inr (omega arith) ] in
          absurd (never_past row w g.met.B.Block.some x F m hs ws X c.in_ok-p.p inside (ap (λ r. bit r c.in_ok-p.p) e ∙ h.2) c.in_ok-lines.lines c.in_ok-lines.was past),
    )

pub returns : goal.returns
returns g c =
    let row = g.B.Block.row in
    let w = g.B.Block.places in
    let eight = g.met.B.Block.some in
    let x = c.args.self.now in
    let p = c.in_ok-p.p in
    let l = c.in_ok-lines.lines in
    let e = ends_read row w eight x c.index.result.now c.index.ensures in
    let h = c.in_ok-p.ensures in
    let inside : p < w = omega arith in
    let one : bit (ends_in row w x) p ≡ true = ap (λ r. bit r p) e ∙ h.2 in (
      λ b. none-some _ (sym b.lines ∙ c.in_ok-lines.was),
      λ F m hs ws X.
          let e₂ = ends_read row w eight x c.index-2.result.now c.index-2.ensures in
          let seen : answered w ≡ w = omega arith in
          let P = c.in_ok-end.ensures in
          let least : (i : ℕ) → i < p → bit (ends_in row w x) i ≡ false = λ i k. ap (λ r. bit r i) e ∙ h.3 i (omega arith) k in
          let moves = subst (λ (k : ℕ). Moves row k l c.place.new.self p) seen P.2 in
          let cleared = cleared_bits row w eight x F m hs ws X p (row c.one.result) (row c.not.result) (row c.and.result) (c.one.ensures.within h.1) c.not.ensures
          (c.and.ensures ∙ ap (λ r. and_row w r (row c.not.result)) (sym e₂)) in
          let counts = subst (λ (k : ℕ). Counts row k (padded m) l) (sym seen) (lined_as row w eight x F m hs ws X p inside one l c.in_ok-lines.was).counts in (
            _,
            _,
            first row w eight x F m hs ws X (row c.and.result) p inside one least cleared l c.in_ok-lines.was,
            P.3 (padded m) counts,
            handed row w eight x F m hs ws X (row c.and.result) p inside one least cleared l c.in_ok-lines.was _ _ (ends_written row w eight x c.and.result) refl refl moves,
            λ G. record { carried = G.carried; full = G.full },
          ),
    )
