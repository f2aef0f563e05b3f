-- `short_plain` finds which of cells and scratch is short.
use borrow.Author.Rules.{rules}
use Rattle.lending.proofs.Laws.{plain_cells, plain_scratch, plain_fine}
use Rattle.lending.proofs.short_plain.Goals as goal

pub returns-then-is_short : goal.returns-then-is_short
returns-then-is_short c = search (plain_cells, rules)

pub returns-then-is_short-2 : goal.returns-then-is_short-2
returns-then-is_short-2 c = search (plain_scratch, rules)

pub returns : goal.returns
returns c = search (plain_fine, rules)
