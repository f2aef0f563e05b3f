-- `text_coloured_verdict` meets its contract.
use native.Mathlib.Omega.{arith}
use Prim.Native.Nat.{ℕ}
use borrow.Author.Rules.{rules}
use mathlib.Core.Path.{◌≡◌, sym, ap, ◌∙◌}
use Rattle.std.specs.Prelude.{Err}
use Rattle.picture.specs.Painted.{coloured_rooms}
use Rattle.rowtext.specs.Coloured.{coloured_room}
use Rattle.painttext.proofs.Laws.{refused_before, coloured_within, then_output}
use Rattle.painttext.proofs.text_coloured_verdict.Goals as goal

pub returns-in_err-coloured_verdict : goal.returns-in_err-coloured_verdict
returns-in_err-coloured_verdict c =
    let refusal = c.in_err-coloured_verdict.field-0.0 in
    let e : c.from_residual.result ≡ Err refusal = search rules in
    e ∙ sym c.in_err-coloured_verdict.was ∙ refused_before _ _ _ (coloured_rooms _ _ _ _ _ _) _ _ _ c.coloured_verdict.ensures refusal.code refusal.place c.in_err-coloured_verdict.was

pub coloured_room-requires : goal.coloured_room-requires
coloured_room-requires c =
    let limits = coloured_within _ _ _ _ _ _ _ _ c.coloured_verdict.ensures c.in_ok-coloured_verdict.was in
    (omega (arith, limits.0, c.number-width.ensures.0, c.word.ensures), limits.1)

pub returns : goal.returns
returns c =
    let width = ap (λ (n : ℕ). coloured_room n c.args.rows) (c.number-width.ensures.0 ∙ c.word.ensures) in
    then_output _ _ _ (coloured_rooms _ _ _ _ _ _) _ _ _ c.coloured_verdict.ensures _ _ c.in_ok-coloured_verdict.was (c.coloured_room.ensures ∙ width) c.output_verdict.ensures
