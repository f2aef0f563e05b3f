-- `head_on_row` gives a marker as an arrow of the line at a row.
use borrow.Author.Tests.{eq-eqb, ne_eqb}
use Rattle.leg_pieces.proofs.head_on_row.Goals as goal

pub returns-then-y-row : goal.returns-then-y-row
returns-then-y-row c = rw (c.in_ok-x.was, eq-eqb _ _ c.if-y-row.true)

pub returns-else-y-row : goal.returns-else-y-row
returns-else-y-row c = rw (c.in_ok-x.was, ne_eqb _ _ c.if-y-row.false)
