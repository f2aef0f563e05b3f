-- `tint_row` paints a row of the colours and of the stamps, where the window has it.
use borrow.Author.Rules.{rules}
use mathlib.Core.Path.{sym, ◌∙◌}
use Rattle.window.proofs.Fills.{row_inside, row_outside}
use Rattle.window.proofs.fill.tint_row.Goals as goal

pub returns-then-has-clause-colours_after : goal.returns-then-has-clause-colours_after
returns-then-has-clause-colours_after c = search (row_inside, rules)

pub returns-then-has-clause-stamps_after : goal.returns-then-has-clause-stamps_after
returns-then-has-clause-stamps_after c = search (row_inside, rules)

pub returns-else-has-clause-colours_after : goal.returns-else-has-clause-colours_after
returns-else-has-clause-colours_after c = search (row_outside, rules)

pub returns-else-has-clause-stamps_after : goal.returns-else-has-clause-stamps_after
returns-else-has-clause-stamps_after c = search (row_outside, rules)

pub row_at-start-requires : goal.row_at-start-requires
row_at-start-requires c = (sym c.has.ensures ∙ c.if-has.true, search rules)
