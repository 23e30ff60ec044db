use Rattle.std.proofs.Common.{◌≡◌, ◌+◌, Bool, true, false, ltb, length, None, sym, ap, ◌∙◌, arith}
use Rattle.std.proofs.lemmas.Result.{err_from_is_err_and}
use Rattle.std.proofs.lemmas.Bool.{lt-ltb, le-ltb}
use Rattle.refusal.specs.declared.Refusal.TheVariants.{TooManyBytes, RecordingTooLong}
use Rattle.limits.specs.Limits.{longest_piece, longest_recording}
use Rattle.form.specs.Form.{weight}
use Rattle.history.specs.Calls as history
use Rattle.history.specs.Rules.{check, some, close_refusal, piece_refusal}
use Rattle.search.specs.Telling.{as_result}
use Rattle.search.proofs.Performing.{behind_err, behind_ok}
use Rattle.search.proofs.state.Search.may_feed.Goals as goal

pub returns-in_err-may_match : goal.returns-in_err-may_match
returns-in_err-may_match g c F bytes hs ws R =
    let p = err_from_is_err_and c.from_residual.result c.from_residual.ensures.1 in
    rw (p.1, p.2)
    (sym (behind_err _ _ c.in_err-may_match.field-0.0 (sym (c.may_match.ensures F bytes hs ws R) ∙ c.in_err-may_match.was)))

pub returns-then-piece-gt-LONGEST_PIECE : goal.returns-then-piece-gt-LONGEST_PIECE
returns-then-piece-gt-LONGEST_PIECE g c F bytes hs ws R =
    let b = behind_ok (close_refusal history.Open (some ws) (weight F) c.args.blocks) (piece_refusal (length bytes) c.args.piece) (sym (c.may_match.ensures F bytes hs ws R) ∙ c.in_ok-may_match.was) in
    let over : ltb longest_piece c.args.piece ≡ true = lt-ltb longest_piece c.args.piece (omega arith) in
    sym (ap as_result (b ∙ ap (λ (x : Bool). check x TooManyBytes (check (ltb longest_recording (length bytes + c.args.piece)) RecordingTooLong None)) over))

pub returns-then-saturating_add-gt-LONGEST_RECORDING : goal.returns-then-saturating_add-gt-LONGEST_RECORDING
returns-then-saturating_add-gt-LONGEST_RECORDING g c F bytes hs ws R =
    let b = behind_ok (close_refusal history.Open (some ws) (weight F) c.args.blocks) (piece_refusal (length bytes) c.args.piece) (sym (c.may_match.ensures F bytes hs ws R) ∙ c.in_ok-may_match.was) in
    let within : ltb longest_piece c.args.piece ≡ false = le-ltb longest_piece c.args.piece (omega arith) in
    let over : ltb longest_recording (length bytes + c.args.piece) ≡ true = lt-ltb longest_recording (length bytes + c.args.piece) (omega arith) in
    sym (ap as_result (b ∙ (λ i. check (within i) TooManyBytes (check (over i) RecordingTooLong None))))

pub returns : goal.returns
returns g c F bytes hs ws R =
    let b = behind_ok (close_refusal history.Open (some ws) (weight F) c.args.blocks) (piece_refusal (length bytes) c.args.piece) (sym (c.may_match.ensures F bytes hs ws R) ∙ c.in_ok-may_match.was) in
    let within : ltb longest_piece c.args.piece ≡ false = le-ltb longest_piece c.args.piece (omega arith) in
    let room : ltb longest_recording (length bytes + c.args.piece) ≡ false = le-ltb longest_recording (length bytes + c.args.piece) (omega arith) in
    sym (ap as_result (b ∙ (λ i. check (within i) TooManyBytes (check (room i) RecordingTooLong None))))
