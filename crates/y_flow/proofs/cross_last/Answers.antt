-- `cross_last` gives the last corner of a crossing.
use borrow.Author.Tests.{eq-eqb, ne_eqb}
use Rattle.y_flow.specs.YFlow.{cross_last_y}
use Rattle.y_flow.proofs.cross_last.Goals as goal

pub returns-then-x1-x2 : goal.returns-then-x1-x2
unfolding cross_last_y
returns-then-x1-x2 c = rw (eq-eqb _ _ c.if-x1-x2.true)

pub returns : goal.returns
unfolding cross_last_y
returns c = rw (ne_eqb _ _ c.if-x1-x2.false, c.corner.ensures)
