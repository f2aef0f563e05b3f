-- `stroke` puts the stroked cell at a column, and nothing off the row.
use borrow.Author.Rules.{rules}
use mathlib.Core.Path.{sym}
use Rattle.canvas.specs.Row.{stroke_row}
use Rattle.canvas.proofs.Laws.{put_this}
use Rattle.canvas.proofs.Theorems.{stroke_off}
use Rattle.canvas.proofs.row.stroke.Goals as goal

pub returns-then-x-row : goal.returns-then-x-row
unfolding stroke_row
returns-then-x-row c = put_this _ _ _ _ _ _ c.put.ensures (search rules)

pub returns-else-x-row : goal.returns-else-x-row
returns-else-x-row c = sym (stroke_off _ _ _ _ c.if-x-row.false)
