-- `strokes_along` puts strokes into columns of a row. The loop's invariant is the work left.
use borrow.Author.Rules.{rules}
use Rattle.rows.specs.Spots.{stroke}
use Rattle.lines.proofs.Laws.{strokes_again, strokes_done}
use Rattle.lines.proofs.cells.strokes_along.Goals as goal

pub loop-x-preserved : goal.loop-x-preserved
loop-x-preserved c = strokes_again _ _ _ _ _ _ c.loop-x.invariant _ (search rules) c.stroke.ensures

pub returns : goal.returns
returns c = strokes_done _ _ _ _ _ _ c.loop-x.invariant (search rules)
