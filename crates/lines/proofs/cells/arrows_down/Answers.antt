-- `arrows_down` puts a line into a column, in rows of the window. The loop's invariant is the work left.
use borrow.Author.Rules.{rules}
use Rattle.lines.proofs.Clipped.{down_again, down_done}
use Rattle.lines.proofs.cells.arrows_down.Goals as goal

pub loop-y-preserved : goal.loop-y-preserved
loop-y-preserved c = down_again _ _ _ _ _ _ c.loop-y.invariant _ _ c.row_start-start.ensures.0 c.cell_part.ensures (search rules) (search rules) (search rules)

pub returns : goal.returns
returns c = down_done _ _ _ _ _ _ c.loop-y.invariant (search rules)
