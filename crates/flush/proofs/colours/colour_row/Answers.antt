-- `colour_row` puts the runs of one row into its colours, a part that is lent and put back.
use borrow.Author.Rules.{rules}
use Rattle.runs.specs.Runs.{flush_colours}
use Rattle.flush.proofs.Windows.{colours_back, colours_row, colours_none}
use Rattle.flush.proofs.colours.colour_row.Goals as goal

pub returns-then-head-ne0 : goal.returns-then-head-ne0
returns-then-head-ne0 c =
    colours_row _ _ _ _ _ _ _ (search rules) (search rules) c.row_start-a.ensures.0
    (colours_back _ _ (flush_colours _ _) _ _ _ c.flush_colours.ensures)

pub returns-else-head-ne0 : goal.returns-else-head-ne0
returns-else-head-ne0 c = colours_none _ _ _ _ (search rules) _ _
