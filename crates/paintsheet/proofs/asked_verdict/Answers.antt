-- `asked_verdict` finds the first rule that is broken, the check's, then that of the band height.
use borrow.Author.Rules.{rules}
use mathlib.Core.Path.{◌≡◌, sym, ◌∙◌}
use Rattle.std.specs.Prelude.{Err}
use Rattle.paintsheet.proofs.Laws.{image_refused, height_refused, height_passed}
use Rattle.paintsheet.proofs.asked_verdict.Goals as goal

pub returns-in_err-image_verdict : goal.returns-in_err-image_verdict
returns-in_err-image_verdict c =
    let refusal = c.in_err-image_verdict.field-0.0 in
    let e : c.from_residual.result ≡ Err refusal = search rules in
    e ∙ sym c.in_err-image_verdict.was ∙ image_refused _ _ _ c.image_verdict.ensures refusal.code refusal.place c.in_err-image_verdict.was

pub returns-then-band-eq0 : goal.returns-then-band-eq0
returns-then-band-eq0 c = height_refused _ _ _ c.image_verdict.ensures c.in_ok-image_verdict.was c.if-band-eq0.true

pub returns : goal.returns
returns c = height_passed _ _ _ c.image_verdict.ensures c.in_ok-image_verdict.was c.if-band-eq0.false
