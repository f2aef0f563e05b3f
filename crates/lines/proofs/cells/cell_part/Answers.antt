-- `cell_part` puts it into its part of the cells.
use Rattle.window.proofs.Laws.{put_back}
use Rattle.lines.proofs.cells.cell_part.Goals as goal

pub returns : goal.returns
returns c = put_back _ _ _ _ _ c.cell.ensures
