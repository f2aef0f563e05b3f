-- `ink_column` inks a column with a weight, and with none does nothing.
use borrow.Author.Rules.{rules}
use Rattle.canvas.proofs.PackedStroke.{same_stroke}
use Rattle.runs.proofs.Covering.{ink_here, ink_none}
use Rattle.runs.proofs.cover.ink_column.Goals as goal

pub returns-then-weight-ne0 : goal.returns-then-weight-ne0
returns-then-weight-ne0 c =
    ink_here _ _ _ _ _ _ _ (search rules) c.from.ensures c.horizontal-arms.ensures
    (same_stroke _ _ _ _ _ _ c.stroke_word.ensures.1 c.stroke.ensures)

pub returns-else-weight-ne0 : goal.returns-else-weight-ne0
returns-else-weight-ne0 c = ink_none _ _ _ _ (search rules)
