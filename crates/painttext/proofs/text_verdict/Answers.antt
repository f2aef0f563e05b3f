-- `text_verdict` meets its contract.
use native.Mathlib.Omega.{arith}
use Prim.Native.Nat.{ℕ}
use borrow.Author.Rules.{rules}
use mathlib.Core.Path.{◌≡◌, sym, ap, ◌∙◌}
use Rattle.std.specs.Prelude.{Err}
use Rattle.picture.specs.Painted.{plain_rooms}
use Rattle.rowtext.specs.Text.{text_room}
use Rattle.painttext.proofs.Laws.{refused_before, within, then_output}
use Rattle.painttext.proofs.text_verdict.Goals as goal

pub returns-in_err-plain_verdict : goal.returns-in_err-plain_verdict
returns-in_err-plain_verdict c =
    let refusal = c.in_err-plain_verdict.field-0.0 in
    let e : c.from_residual.result ≡ Err refusal = search rules in
    e ∙ sym c.in_err-plain_verdict.was ∙ refused_before _ _ _ (plain_rooms _ _ _ _) _ _ _ c.plain_verdict.ensures refusal.code refusal.place c.in_err-plain_verdict.was

pub text_room-requires : goal.text_room-requires
text_room-requires c =
    let limits = within _ _ _ _ _ _ c.plain_verdict.ensures c.in_ok-plain_verdict.was in
    (omega (arith, limits.0, c.number-width.ensures.0, c.word.ensures), limits.1)

pub returns : goal.returns
returns c =
    let width = ap (λ (n : ℕ). text_room n c.args.rows) (c.number-width.ensures.0 ∙ c.word.ensures) in
    then_output _ _ _ (plain_rooms _ _ _ _) _ _ _ c.plain_verdict.ensures _ _ c.in_ok-plain_verdict.was (c.text_room.ensures ∙ width) c.output_verdict.ensures
