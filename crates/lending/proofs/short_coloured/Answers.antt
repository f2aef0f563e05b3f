-- `short_coloured` finds which of the four buffers is short, the first of them.
use borrow.Author.Rules.{rules}
use Rattle.lending.proofs.Laws.{coloured_cells, coloured_colours, coloured_stamps, coloured_scratch, coloured_fine}
use Rattle.lending.proofs.short_coloured.Goals as goal

pub returns-then-is_short : goal.returns-then-is_short
returns-then-is_short c = search (coloured_cells, rules)

pub returns-then-is_short-2 : goal.returns-then-is_short-2
returns-then-is_short-2 c = search (coloured_colours, rules)

pub returns-then-is_short-3 : goal.returns-then-is_short-3
returns-then-is_short-3 c = search (coloured_stamps, rules)

pub returns-then-is_short-4 : goal.returns-then-is_short-4
returns-then-is_short-4 c = search (coloured_scratch, rules)

pub returns : goal.returns
returns c = search (coloured_fine, rules)
