-- `stroke_part` puts a stroke into its part of the cells.
use Rattle.window.specs.Writes.{ink_on}
use Rattle.window.proofs.Laws.{put_back}
use Rattle.lines.proofs.cells.stroke_part.Goals as goal

pub returns : goal.returns
unfolding ink_on
returns c = put_back _ _ _ _ _ c.stroke.ensures
