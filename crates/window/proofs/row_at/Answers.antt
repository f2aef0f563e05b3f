-- `row_at` is where a row of the sheet begins in a window that has it.
use borrow.Author.Rules.{rules}
use Rattle.window.proofs.Laws.{from_first, before_end}
use Rattle.window.proofs.row_at.Goals as goal

pub overflow_sub-y : goal.overflow_sub-y
overflow_sub-y c = search (from_first, rules)

pub row_start-requires : goal.row_start-requires
row_start-requires c = search (before_end, rules)
