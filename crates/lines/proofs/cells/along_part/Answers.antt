-- `along_part` puts a line into its part of the cells.
use Rattle.window.proofs.Laws.{put_back}
use Rattle.lines.proofs.cells.along_part.Goals as goal

pub returns : goal.returns
returns c = put_back _ _ _ _ _ c.along_row.ensures
