-- `head_on_column` gives a marker as an arrow of the line at a column.
use borrow.Author.Tests.{eq-eqb, ne_eqb}
use Rattle.leg_pieces.proofs.head_on_column.Goals as goal

pub returns-then-x-column : goal.returns-then-x-column
returns-then-x-column c = rw (c.in_ok-x.was, eq-eqb _ _ c.if-x-column.true)

pub returns-else-x-column : goal.returns-else-x-column
returns-else-x-column c = rw (c.in_ok-x.was, ne_eqb _ _ c.if-x-column.false)
