-- `coloured_verdict` finds the first rule that is broken, the check's, then those of a coloured band.
use borrow.Author.Rules.{rules}
use mathlib.Core.Path.{◌≡◌, sym, ◌∙◌}
use Rattle.std.specs.Prelude.{Err}
use Rattle.picture.specs.Painted.{coloured_rooms}
use Rattle.paint.proofs.Laws.{refused_first, passed_first}
use Rattle.paint.proofs.coloured_verdict.Goals as goal

pub returns-in_err-image_verdict : goal.returns-in_err-image_verdict
returns-in_err-image_verdict c =
    let refusal = c.in_err-image_verdict.field-0.0 in
    let e : c.from_residual.result ≡ Err refusal = search rules in
    e ∙ sym c.in_err-image_verdict.was ∙ refused_first _ _ c.image_verdict.ensures _ _ refusal.code refusal.place c.in_err-image_verdict.was

pub returns : goal.returns
returns c = passed_first _ _ c.image_verdict.ensures _ (coloured_rooms _ _ _ _ _ _) _ c.in_ok-image_verdict.was c.check_coloured.ensures
