-- Lines counted from place to place. Assumes nothing.
use Rattle.std.proofs.Common.{◌≡◌, ℕ, suc, ◌+◌, ◌-◌, ◌<◌, ◌≤◌, true, false, cond, not, T, eqb, sym, ap, ◌∙◌, subst, arith}
use Rattle.form.specs.Meaning.{feed}
use Rattle.form.specs.Positions.{line_at, start_at}
use Rattle.form.proofs.Tapes.{line_quiet, start_quiet}
use Rattle.marks.specs.declared.line.Line.{Line}
use Rattle.marks.specs.Counting.{Counted}

-- a line feed
pub feed_more : (t : ℕ → ℕ) (l : Line) (p : ℕ) → eqb (t p) feed ≡ true → Counted t l p
    → Counted t (record { number = l.number + 1; start = p + 1 }) (p + 1)
feed_more t l p e c =
    let q : suc p ≡ p + 1 = omega arith in
    let n : line_at t (suc p) ≡ suc (line_at t p) = ap (λ b. cond b (suc (line_at t p)) (line_at t p)) e in
    let s : start_at t (suc p) ≡ suc p = ap (λ b. cond b (suc p) (start_at t p)) e in
    record { line = let h = c.line in omega arith ∙ sym n ∙ ap (line_at t) q; start = sym q ∙ sym s ∙ ap (start_at t) q }

-- places without a line feed
pub no_feed : (t : ℕ → ℕ) (l : Line) (base at to : ℕ) → at ≤ to → ((i : ℕ) → at ≤ i → i < to → eqb (t (base + i)) feed ≡ false)
    → Counted t l (base + at) → Counted t l (base + to)
no_feed t l base at to h none c =
    let e : base + at + (to - at) ≡ base + to = omega arith in
    record {
      line = c.line ∙ sym (line_quiet t (base + at) (to - at) quiet) ∙ ap (line_at t) e;
      start = c.start ∙ sym (start_quiet t (base + at) (to - at) quiet) ∙ ap (start_at t) e;
    }
  where
    quiet : (i : ℕ) → i < to - at → T (not (eqb (t (base + at + i)) feed))
    quiet i k =
        let e : base + (at + i) ≡ base + at + i = omega arith in
        subst (λ b. T (not b)) (sym (none (at + i) (omega arith) (omega arith)) ∙ ap (λ q. eqb (t q) feed) e) tt
