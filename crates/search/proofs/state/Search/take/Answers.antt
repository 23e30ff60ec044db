use Rattle.std.proofs.Common.{Bool, [], ◌++◌, refl, length, Ok, sym, ap, ◌∙◌, subst, append_assoc, arith, length-append}
use Rattle.std.proofs.lemmas.Bool.{eqb-true, eqb-false}
use Rattle.std.proofs.lemmas.List.{append-nil, nil_from_length}
use Rattle.search.proofs.Entering.{Going, begun, stopped, going, arrived, step, not_both}
use Rattle.search.proofs.state.Search.take.Goals as goal

pub returns-in_err-enter : goal.returns-in_err-enter
returns-in_err-enter g c =
    let I = c.loop-rest.invariant in
    let part = c.split_at.result.0.now in
    let behind = c.split_at.result.1.now in
    let test = eqb-false _ 0 (sym c.loop-rest-test.ensures) in
    record {
      state = c.enter.ensures.state ∙ I.2;
      on = λ F bytes hs R enough far.
          let G = I.3 F bytes hs R enough far in
          let fits = c.room.ensures.fits G.0.finds.narrow G.0.short in
          let y = step g.B.Block.row g.B.Block.places g.met.B.Block.some F bytes hs c.loop-rest.self c.enter.new.self I.0 part behind c.args.piece.now (length c.loop-rest.blocks) G
          (I.1 ∙ ap (λ l. I.0 ++ l) c.split_at.ensures.by_index.0) (omega arith) (omega arith) (omega arith) far c.enter.result c.enter.ensures in
          absurd (not_both c.enter.result _ _ y.1 c.in_err-enter.was);
    }

pub returns-then-branch : goal.returns-then-branch
returns-then-branch g c =
    let I = c.loop-rest.invariant in
    let part = c.split_at.result.0.now in
    let behind = c.split_at.result.1.now in
    let test = eqb-false _ 0 (sym c.loop-rest-test.ensures) in
    let is = I.1 ∙ ap (λ l. I.0 ++ l) c.split_at.ensures.by_index.0 in
    record {
      state = c.enter.ensures.state ∙ I.2;
      on = λ F bytes hs R enough far.
          let G = I.3 F bytes hs R enough far in
          let fits = c.room.ensures.fits G.0.finds.narrow G.0.short in
          stopped g.B.Block.row g.B.Block.places g.met.B.Block.some F bytes hs c.loop-rest.self c.enter.new.self I.0 part behind c.args.piece.now (length c.loop-rest.blocks) G
          is (omega arith) (omega arith) (omega arith) far c.enter.result c.enter.ensures
          (c.in_ok-enter.was ∙ ap (λ (b : Bool). Ok b) c.if-branch.true) _ (omega (arith, ap length is, length-append I.0 (part ++ behind), length-append part behind));
    }

pub loop-rest-init : goal.loop-rest-init
loop-rest-init g c = (
  [],
  refl,
  refl,
  λ F bytes hs R enough far. begun g.B.Block.row g.B.Block.places g.met.B.Block.some F bytes hs c.args.self.now R,
)

pub loop-rest-preserved : goal.loop-rest-preserved
loop-rest-preserved g c =
    let I = c.loop-rest.invariant in
    let part = c.split_at.result.0.now in
    let behind = c.split_at.result.1.now in
    let test = eqb-false _ 0 (sym c.loop-rest-test.ensures) in
    let is = I.1 ∙ ap (λ l. I.0 ++ l) c.split_at.ensures.by_index.0 in (
      I.0 ++ part,
      is ∙ sym (append_assoc I.0 part behind),
      c.enter.ensures.state ∙ I.2,
      λ F bytes hs R enough far.
          let G = I.3 F bytes hs R enough far in
          let fits = c.room.ensures.fits G.0.finds.narrow G.0.short in
          going g.B.Block.row g.B.Block.places g.met.B.Block.some F bytes hs c.loop-rest.self c.enter.new.self I.0 part behind c.args.piece.now (length c.loop-rest.blocks) G
          is (omega arith) (omega arith) (omega arith) far c.enter.result c.enter.ensures
          (c.in_ok-enter.was ∙ ap (λ (b : Bool). Ok b) c.if-branch.false),
    )

pub returns : goal.returns
returns g c =
    let I = c.loop-rest.invariant in
    let none = nil_from_length c.loop-rest.rest.now (eqb-true _ 0 (sym c.loop-rest-test.ensures)) in
    let all = sym (I.1 ∙ ap (λ l. I.0 ++ l) none ∙ append-nil I.0) in
    record {
      state = I.2;
      on = λ F bytes hs R enough far.
          arrived g.B.Block.row g.B.Block.places g.met.B.Block.some F bytes hs c.loop-rest.self c.args.piece.now
          (subst (Going g.B.Block.row g.B.Block.places c.loop-rest.self F bytes hs) all (I.3 F bytes hs R enough far));
    }
