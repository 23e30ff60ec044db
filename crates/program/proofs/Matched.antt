-- One block of a tape, matched by the program of a form. Assumes nothing.
use Rattle.std.proofs.Common.{◌≡◌, ℕ, zero, suc, ◌+◌, ◌-◌, ◌<◌, false, T, eqb, sym, refl, ap, ◌∙◌, subst, arith}
use Rattle.block.specs.Rows.{bit}
use Rattle.block.specs.Calls.{enters}
use Rattle.block.proofs.Rows.{bit_tab, tab_ext}
use Rattle.form.specs.Meaning.{feed}
use Rattle.form.specs.Positions.{opens}
use Rattle.theory.specs.Pattern.{Pattern, leaf, many, plus, eps, seq, alt, opt, star, head, tail}
use Rattle.theory.specs.Block.{none, feed_row}
use Rattle.theory.specs.Whole.{Carried}
use Rattle.theory.specs.Written.{streams, written}
use Rattle.theory.proofs.Whole.{first_border}
use Rattle.theory.proofs.Written.{written_matches}
use Rattle.program.specs.Numbered.{leaves, carries_of}
use Rattle.program.specs.Sizes.{class_count}
use Rattle.program.specs.Matched.{matched, FirstStanding, FormBlock, LineStarts}
use Rattle.program.proofs.Blocks.{program_block}
use Rattle.program.proofs.Sizes.{form_classed, form_depth}

none_set : (F : Pattern) (k : ℕ) → carries_of F k (λ i. false) ≡ none F
none_set (leaf c) k = refl
none_set (many c) k = refl
none_set (plus c) k = refl
none_set eps k = refl
none_set (seq F G) k = λ j. (none_set F k j, none_set G (k + leaves F) j)
none_set (alt F G) k = λ j. (none_set F k j, none_set G (k + leaves F) j)
none_set (opt F) k = none_set F k
none_set (star F) k = none_set F k
none_set head k = refl
none_set tail k = refl

pub first_standing : FirstStanding
first_standing F t = subst (Carried (streams F t) 0 (written F)) (sym (none_set (written F) 0)) (first_border (streams F t) (written F))

pub form_block : FormBlock
form_block F deep t b w pos ins stands x R Z j e =
    let next =
    program_block (streams F t) b w pos (class_count F) (written F) (form_classed F) (omega (arith, form_depth F)) ins stands x R Z
    j e in (
      λ p l u.
          let m = next.0 p l u in (
            λ h. let y = m.0 (p - b, omega arith, omega arith, h) in (y.0, (written_matches F t y.0 p).1 y.1),
            λ h.
                let y = m.1 (h.0, (written_matches F t h.0 p).0 h.1) in
                let q : y.0 ≡ p - b = omega arith in
                subst (λ i. T (bit (matched F w ins x j).marks i)) q y.3,
          ),
      next.1,
    )

pub line_starts : LineStarts
line_starts F t b w pos = record { moved = tab_ext w (λ i. opens t (b + i)) _ starts; fallen = last w pos }
  where
    starts : (i : ℕ) → i < w → opens t (b + i) ≡ enters (opens t b) (bit (feed_row (streams F t) b w)) i
    starts zero l = ap (opens t) (omega arith)
    starts (suc i) l =
        let e : b + suc i ≡ suc (b + i) = omega arith in
        ap (opens t) e ∙ sym (bit_tab w (λ j. eqb (t (b + j)) feed) i (omega arith))

    last : (v : ℕ) → 0 < v → opens t (b + v) ≡ bit (feed_row (streams F t) b v) (v - 1)
    last zero l = absurd (omega arith)
    last (suc v) l =
        let e : b + suc v ≡ suc (b + (suc v - 1)) = omega arith in
        ap (opens t) e ∙ sym (bit_tab (suc v) (λ j. eqb (t (b + j)) feed) (suc v - 1) (omega arith))
