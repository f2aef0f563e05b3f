-- `arrows_along` puts a line into columns of a row. The loop's invariant is the work left.
use borrow.Author.Rules.{rules}
use Rattle.lines.proofs.Laws.{along_again, along_done}
use Rattle.lines.proofs.cells.arrows_along.Goals as goal

pub loop-x-preserved : goal.loop-x-preserved
loop-x-preserved c = search (along_again, rules)

pub returns : goal.returns
returns c = search (along_done, rules)
