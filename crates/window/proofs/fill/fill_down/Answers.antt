-- `fill_down` puts a value into a column, in the rows that the window has. The loop's invariant is the work left.
use borrow.Author.Rules.{rules}
use Rattle.window.proofs.Down.{rows_again, rows_done}
use Rattle.window.proofs.fill.fill_down.Goals as goal

pub loop-y-preserved : goal.loop-y-preserved
loop-y-preserved c = rows_again c.args.v _ c.loop-y.y c.args.high c.min-end.result _ _ _ _ (search rules) (search rules) c.min-end.ensures c.row_start-start.ensures.0 c.loop-y.invariant c.fill_part.ensures

pub returns : goal.returns
returns c = search (rows_done, rules)
