-- `letter` puts a glyph in one column, and nothing off the row.
use borrow.Author.Rules.{rules}
use mathlib.Core.Path.{sym}
use Rattle.cell.specs.OneCell.{painted_text}
use Rattle.canvas.specs.Row.{letter_row}
use Rattle.canvas.proofs.Laws.{put_this}
use Rattle.canvas.proofs.Theorems.{letter_off}
use Rattle.canvas.proofs.row.letter.Goals as goal

pub returns-then-x-row : goal.returns-then-x-row
unfolding letter_row painted_text
returns-then-x-row c = put_this _ _ _ _ _ _ c.put.ensures (search rules)

pub returns-else-x-row : goal.returns-else-x-row
returns-else-x-row c = sym (letter_off _ _ _ _ c.if-x-row.false)
