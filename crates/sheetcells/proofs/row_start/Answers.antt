-- `row_start` leaves room for the row.
use borrow.Author.Rules.{rules}
use Rattle.sheetcells.proofs.Laws.{row_inside, start_fits}
use Rattle.sheetcells.proofs.row_start.Goals as goal

pub overflow_mul-result : goal.overflow_mul-result
overflow_mul-result c = search (start_fits, rules)

pub returns : goal.returns
returns c = search (row_inside, rules)
