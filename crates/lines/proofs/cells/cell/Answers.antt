-- `cell` puts what a line has at a place of it.
use borrow.Author.Rules.{rules}
use Rattle.lines.proofs.Laws.{cell_winner, cell_other, cell_stroke}
use Rattle.lines.proofs.cells.cell.Goals as goal

pub returns-then-head_here : goal.returns-then-head_here
returns-then-head_here c = search (cell_winner, rules)

pub returns-then-head_here-2 : goal.returns-then-head_here-2
returns-then-head_here-2 c = search (cell_other, rules)

pub returns : goal.returns
returns c = search (cell_stroke, rules)
