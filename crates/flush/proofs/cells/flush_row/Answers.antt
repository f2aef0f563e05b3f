-- `flush_row` puts the runs of one row into its cells, a part that is lent and put back.
use borrow.Author.Rules.{rules}
use Rattle.window.proofs.Laws.{put_back}
use Rattle.flush.proofs.Windows.{cells_row, cells_none}
use Rattle.flush.proofs.cells.flush_row.Goals as goal

pub returns-then-head-ne0 : goal.returns-then-head-ne0
returns-then-head-ne0 c =
    cells_row _ _ _ _ _ _ _ (search rules) (search rules) c.row_start-a.ensures.0
    (put_back _ _ _ _ _ c.flush_cells.ensures)

pub returns-else-head-ne0 : goal.returns-else-head-ne0
returns-else-head-ne0 c = cells_none _ _ _ _ (search rules) _ _
