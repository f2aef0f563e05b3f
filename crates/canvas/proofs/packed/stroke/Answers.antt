-- `stroke` of packed words comes to a stroke at the column: on an empty cell, and by `stroke_any` on any other.
use borrow.Author.Rules.{rules}
use mathlib.Core.Path.{sym}
use Rattle.canvas.proofs.Theorems.{stroke_off}
use Rattle.canvas.proofs.PackedStroke.{on_empty}
use Rattle.canvas.proofs.packed.stroke.Goals as goal

pub returns-then-row-x-eq0 : goal.returns-then-row-x-eq0
returns-then-row-x-eq0 c = on_empty _ _ (search rules) _ _ _ c.if-row-x-eq0.true

pub returns-else-x-row : goal.returns-else-x-row
returns-else-x-row c = sym (stroke_off _ _ _ _ c.if-x-row.false)
