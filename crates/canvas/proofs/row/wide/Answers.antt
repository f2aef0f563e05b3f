-- `wide` puts a lead and a continuation, and a space in the last column.
use borrow.Author.Rules.{rules}
use Rattle.canvas.proofs.Laws.{wide_inside, wide_last}
use Rattle.canvas.proofs.row.wide.Goals as goal

pub returns-then-columns-gt1 : goal.returns-then-columns-gt1
returns-then-columns-gt1 c = wide_inside _ _ _ _ _ _ (search rules) (search rules) c.put.ensures

pub returns-else-columns-gt1 : goal.returns-else-columns-gt1
returns-else-columns-gt1 c = wide_last _ _ _ _ _ (search rules) (search rules)
