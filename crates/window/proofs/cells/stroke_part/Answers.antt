-- `stroke_part` writes into its part of the cells.
use Rattle.canvas.proofs.PackedStroke.{same_stroke}
use Rattle.window.specs.Writes.{ink_on}
use Rattle.window.proofs.Laws.{put_back}
use Rattle.window.proofs.cells.stroke_part.Goals as goal

pub returns : goal.returns
unfolding ink_on
returns c = put_back _ _ _ _ _ (same_stroke _ _ _ _ _ _ c.stroke_word-word.ensures.1 c.stroke_any.ensures)
