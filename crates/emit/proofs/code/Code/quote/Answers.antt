use Rattle.std.proofs.Common.{◌≡◌, ◌+◌, ◌-◌, ◌&&◌, cond, eqb, sym, ap, ◌∙◌, subst, arith}
use Rattle.theory.specs.Pattern.{leaf, plus}
use Rattle.emit.specs.Coding.{Writes}
use Rattle.emit.proofs.Walked.{quote_step, quote_end}
use Rattle.emit.proofs.code.Code.quote.Goals.{then-stretched, else-stretched}
use Rattle.emit.proofs.code.Code.quote.Goals as goal

pub loop-before-preserved : goal.loop-before-preserved
loop-before-preserved c = record {
  first = λ e. absurd (omega arith);
  left = λ bs d m z long few w.
      let n = c.loop-before.before in
      let k = n - c.args.class in
      c.loop-before.invariant.left bs d m z long few
      (quote_step m d c.loop-before.self c.take.new.self z bs k (n + 1 - c.args.class) n (n + 1) (omega arith) (omega arith) (omega (arith, c.in-Some.ensures)) (c.take.ensures (omega arith) d) w);
}

pub returns : goal.returns
returns c bs f l d long e few =
    let n = c.loop-before.before in
    let k = n - c.args.class in
    let at : c.saturating_add-last.result ≡ n = omega arith in
    let more : c.in-Some.more ≡ k = omega (arith, c.in-Some.ensures) in
    let is : c.if-stretched.take ≡ ((f && l) && eqb k 0) = elim c.if-stretched.branch [
      | then-stretched w ↦ w.take-is ∙ ap (λ i. eqb i 0) more ∙ ap (λ b. b && eqb k 0) (sym w.if-stretched.true ∙ e)
      | else-stretched w ↦ w.take-is ∙ w.if-stretched.false ∙ ap (λ b. b && eqb k 0) (sym w.if-stretched.false ∙ e)
    ] in (
      omega (arith, c.in-Some.ensures),
      quote_end c.args.into d c.args.class n k f l c.if-stretched.take bs c.args.self.now c.loop-before.self c.take-2.new.self (omega (arith, c.in-Some.ensures)) (omega arith) is (λ z. c.loop-before.invariant.first (omega arith))
          (λ w. c.loop-before.invariant.left bs d c.args.into c.take-2.new.self long few w)
          (subst (λ v. Writes c.args.into d (cond c.if-stretched.take (plus v) (leaf v)) c.loop-before.self c.take-2.new.self) at (c.take-2.ensures (omega arith) d)),
    )
