-- `along` puts a line into a row of the sheet, where the window has it.
use borrow.Author.Rules.{rules}
use mathlib.Core.Path.{sym, ◌∙◌}
use Rattle.window.proofs.Fills.{row_inside, row_outside}
use Rattle.lines.proofs.cells.along.Goals as goal

pub row_at-start-requires : goal.row_at-start-requires
row_at-start-requires c = (sym c.has.ensures ∙ c.if-has.true, search rules)

pub returns-then-has : goal.returns-then-has
returns-then-has c = search (row_inside, rules)

pub returns-else-has : goal.returns-else-has
returns-else-has c = search (row_outside, rules)
