use Rattle.std.proofs.Common.{length, ◌≡◌, ◌+◌, [], List, ◌∙◌, ap, sym, subst, take, Result, arith, rules}
use Rattle.std.proofs.Math.Seq.{take-length}
use Rattle.std.proofs.lemmas.List.{length-take-le}
use Rattle.std.proofs.Common.{length-append, length-drop}
use Rattle.refusal.specs.declared.Refusal.{Refusal}
use Rattle.history.specs.Rules.{Lawful}
use Rattle.history.proofs.Follows.{law_follows_lem}
use Rattle.search.specs.declared.calls.Answer.{Answer}
use Rattle.search.specs.Telling.{Tells}
use Rattle.replay.specs.Recorded.{goes_on}
use Rattle.replay.proofs.Going.{goes}
use Rattle.replay.proofs.replay.Goals as goal

pub loop-request-init : goal.loop-request-init
loop-request-init g c = record {
  long = search rules;
  answered = ap length c.in_ok-answers.ensures.items;
  tells = c.in_ok-search.ensures;
  lawful = law_follows_lem g.B.Block.places (let p = g.met.B.Block.some in omega arith) [] tt;
}

pub loop-request-preserved : goal.loop-request-preserved
loop-request-preserved g c =
    let I = c.loop-request.invariant in
    let m = c.min-lent.ensures in
    let few : length (take c.min-lent.result c.loop-request.blocks) ≡ c.min-lent.result = length-take-le _ c.loop-request.blocks (omega (arith, m)) in
    let x =
    goes g.B.Block.row g.B.Block.places (length c.args.blocks.now) _ _ _ _ c.args.requests.now c.loop-request.answers.items c.loop-request.request-index
    _ _ c.perform.result I.answered c.loop-request-test.true (omega (arith, m, few, I.long)) I.lawful (c.perform.ensures _ I.tells)
    in
    let e = c.in_ok-push.ensures.items in
    let on : List (Result (Answer _) Refusal) → _ = λ ts. goes_on g.B.Block.row g.B.Block.places (length c.args.blocks.now) [] (take (c.loop-request.request-index + 1) c.args.requests.now) ts in
    record {
      long = length-append c.perform.new.blocks _ ∙ (let a = c.perform.auto.blocks in let d = length-drop c.min-lent.result c.loop-request.blocks in omega (arith, m, few, I.long, a, d));
      answered = ap length e ∙ length-append c.loop-request.answers.items _ ∙ ap (λ n. n + 1) I.answered;
      tells = subst (λ ts. Tells g.B.Block.row g.B.Block.places c.perform.new.self (on ts)) (sym e) x.0;
      lawful = subst (λ ts. Lawful g.B.Block.places (on ts)) (sym e) x.1;
    }

pub returns : goal.returns
returns g c =
    let I = c.loop-request.invariant in
    let all : c.loop-request.request-index ≡ length c.args.requests.now = omega (arith, c.loop-request-test.false, c.loop-request.auto.request-index-end) in
    record { answered = I.answered ∙ all; lawful = subst (λ qs. Lawful g.B.Block.places (goes_on g.B.Block.row g.B.Block.places (length c.args.blocks.now) [] qs c.loop-request.answers.items)) (ap (λ k. take k c.args.requests.now) all ∙ take-length c.args.requests.now) I.lawful }
