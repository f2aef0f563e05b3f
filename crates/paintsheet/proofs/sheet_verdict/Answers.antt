-- `sheet_verdict` finds the first rule that is broken, the check's, then those of a plain sheet.
use borrow.Author.Rules.{rules}
use mathlib.Core.Path.{◌≡◌, sym, ◌∙◌}
use Rattle.std.specs.Prelude.{Err}
use Rattle.paintsheet.proofs.Laws.{asked_refused, then_plain_rooms}
use Rattle.paintsheet.proofs.sheet_verdict.Goals as goal

pub returns-in_err-asked_verdict : goal.returns-in_err-asked_verdict
returns-in_err-asked_verdict c =
    let refusal = c.in_err-asked_verdict.field-0.0 in
    let e : c.from_residual.result ≡ Err refusal = search rules in
    e ∙ sym c.in_err-asked_verdict.was ∙ asked_refused _ _ _ c.asked_verdict.ensures _ refusal.code refusal.place c.in_err-asked_verdict.was

pub returns : goal.returns
returns c =
    then_plain_rooms _ _ _ c.asked_verdict.ensures c.in_ok-asked_verdict.was _ _ c.sheet_room.ensures c.sheet_scratch.ensures _ _ _ c.short_plain.ensures
