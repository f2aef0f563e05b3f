-- `cross_last` gives the last corner of a crossing.
use borrow.Author.Tests.{eq-eqb, ne_eqb}
use Rattle.x_flow.specs.XFlow.{cross_last_x}
use Rattle.x_flow.proofs.cross_last.Goals as goal

pub returns-then-y1-y2 : goal.returns-then-y1-y2
unfolding cross_last_x
returns-then-y1-y2 c = rw (eq-eqb _ _ c.if-y1-y2.true)

pub returns : goal.returns
unfolding cross_last_x
returns c = rw (ne_eqb _ _ c.if-y1-y2.false, c.corner.ensures)
