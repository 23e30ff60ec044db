use Rattle.std.proofs.Common.{[], refl}
use Rattle.grammar.proofs.Wants.{seek}
use Rattle.grammar.proofs.Going.{stray_at, refuse_word, refuse_more, no_seek, seek_wordy}
use Rattle.lexer.specs.Places.{start_of, place_of}
use Rattle.reader.proofs.Exits.{exits}
use Rattle.reader.proofs.Outermost.{at_one, same_word, other_word, at_first, after_open, after_seek, after_single, gives}
use Rattle.reader.proofs.whole.whole.Goals as goal

pub returns-in_err-open : goal.returns-in_err-open
returns-in_err-open c =
    exits _ _ _ _ c.from_residual.ensures.1
    (at_first _ c.new-lexer.ensures.first c.new-lexer.ensures.whole (c.in_err-open.ensures.reads []))

pub returns-in_err-w : goal.returns-in_err-w
returns-in_err-w c =
    exits _ _ _ _ c.from_residual-in_err-w.ensures.1
    (after_open c.in_ok-open.ensures.reads c.new-lexer.ensures.first c.new-lexer.ensures.whole c.in_ok-open.ensures.same _ (c.in_err-w.ensures.reads seek [] seek_wordy))

pub returns-then-ne : goal.returns-then-ne
returns-then-ne c =
    rw c.unexpected.ensures
    (after_open c.in_ok-open.ensures.reads c.new-lexer.ensures.first c.new-lexer.ensures.whole c.in_ok-open.ensures.same _
    (refuse_word _ seek [] (no_seek _ (other_word _ _ _ c.ne.result c.ne.ensures c.as_slice.ensures c.if-ne.true)) refl c.in_ok-w.ensures.reads refl))

pub returns-in_err-part : goal.returns-in_err-part
returns-in_err-part c =
    exits _ _ _ _ c.from_residual-in_err-part.ensures.1
    (after_seek c.in_ok-open.ensures.reads c.new-lexer.ensures.first c.new-lexer.ensures.whole c.in_ok-open.ensures.same c.in_ok-w.ensures.reads (same_word _ _ _ c.ne.result c.ne.ensures c.as_slice.ensures c.if-ne.false) c.in_ok-w.ensures.same _ c.outermost.ensures (c.in_err-part.ensures.reads []))

pub returns-in_err-next : goal.returns-in_err-next
returns-in_err-next c =
    exits _ _ _ _ c.from_residual-in_err-next.ensures.1
    (after_single c.in_ok-open.ensures.reads c.new-lexer.ensures.first c.new-lexer.ensures.whole c.in_ok-open.ensures.same c.in_ok-w.ensures.reads (same_word _ _ _ c.ne.result c.ne.ensures c.as_slice.ensures c.if-ne.false) c.in_ok-w.ensures.same (at_one c.outermost.ensures c.in_ok-part.ensures.reads) _ c.in_ok-part.ensures.same (stray_at [] refl c.in_err-next.ensures.token.0))

pub returns-in-End : goal.returns-in-End
returns-in-End c =
    let b = at_one c.outermost.ensures c.in_ok-part.ensures.reads in
    (b.form, gives c.in_ok-open.ensures.reads c.new-lexer.ensures.first c.new-lexer.ensures.whole c.in_ok-open.ensures.same c.in_ok-w.ensures.reads (same_word _ _ _ c.ne.result c.ne.ensures c.as_slice.ensures c.if-ne.false) c.in_ok-w.ensures.same b (start_of c.next.new.self) (place_of c.next.new.self) _ c.in-End.is c.in_ok-part.ensures.same c.in_ok-next.ensures.token, b.stands)

pub returns-in_default : goal.returns-in_default
returns-in_default c =
    after_single c.in_ok-open.ensures.reads c.new-lexer.ensures.first c.new-lexer.ensures.whole c.in_ok-open.ensures.same c.in_ok-w.ensures.reads (same_word _ _ _ c.ne.result c.ne.ensures c.as_slice.ensures c.if-ne.false) c.in_ok-w.ensures.same (at_one c.outermost.ensures c.in_ok-part.ensures.reads) _ c.in_ok-part.ensures.same
    (rw c.unexpected-in_default.ensures (refuse_more _ _ _ _ _ _ _ refl c.in_ok-next.ensures.token refl c.in_default.not-End))
