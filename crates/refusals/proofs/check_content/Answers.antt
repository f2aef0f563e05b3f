-- `check_content` refuses with code 4, then 5, then 13, then 6, or passes.
use borrow.Author.Rules.{rules}
use mathlib.Core.Path.{◌≡◌, ◌∙◌}
use Rattle.std.specs.Prelude.{Err}
use Rattle.refusals.proofs.Laws.{content_field, content_range, content_control, content_corner}
use Rattle.refusals.proofs.check_content.Goals as goal

pub returns-in_err-unless : goal.returns-in_err-unless
returns-in_err-unless c =
    let e : c.from_residual.result ≡ Err c.in_err-unless.field-0.0 = search rules in
    e ∙ content_field _ _ _ c.bad_record_field.ensures _ c.unless.ensures _ c.in_err-unless.was

pub returns-in_err-unless-2 : goal.returns-in_err-unless-2
returns-in_err-unless-2 c =
    let e : c.from_residual-in_err-unless-2.result ≡ Err c.in_err-unless-2.field-0.0 = search rules in
    e
    ∙ content_range _ _ _ c.bad_record_field.ensures _ c.unless.ensures _ c.in_ok-unless.was _ c.bad_range.ensures _ c.unless-2.ensures _ c.in_err-unless-2.was

pub returns-in_err-unless-3 : goal.returns-in_err-unless-3
returns-in_err-unless-3 c =
    let e : c.from_residual-in_err-unless-3.result ≡ Err c.in_err-unless-3.field-0.0 = search rules in
    e
    ∙ content_control _ _ _ c.bad_record_field.ensures _ c.unless.ensures _ c.in_ok-unless.was _ c.bad_range.ensures _ c.unless-2.ensures _ c.in_ok-unless-2.was
    _ c.first_control.ensures _ c.unless-3.ensures _ c.in_err-unless-3.was

pub returns : goal.returns
returns c =
    content_corner _ _ _ c.bad_record_field.ensures _ c.unless.ensures _ c.in_ok-unless.was _ c.bad_range.ensures _ c.unless-2.ensures _ c.in_ok-unless-2.was
    _ c.first_control.ensures _ c.unless-3.ensures _ c.in_ok-unless-3.was _ c.bad_corner.ensures _ c.unless-4.ensures
