-- `line_rows` gives the rows of a leg's interior.
use borrow.Author.Rules.{rules}
use Rattle.orthogonal_reach.proofs.Passing.{rows_on_column, rows_on_row, rows_slanted}
use Rattle.orthogonal_reach.proofs.line_rows.Goals as goal

pub returns-then-from-to : goal.returns-then-from-to
returns-then-from-to c = search (rows_on_column, rules)

pub returns-then-from-to-2 : goal.returns-then-from-to-2
returns-then-from-to-2 c = search (rows_on_row, rules)

pub returns : goal.returns
returns c = search (rows_slanted, rules)
