-- `cross_first` gives the first corner of a crossing, or the arrow that replaces it.
use borrow.Author.Tests.{eq-eqb, ne_eqb}
use Rattle.x_flow.specs.XFlow.{cross_first_x}
use Rattle.x_flow.proofs.cross_first.Goals as goal

pub returns-then-y1-y2 : goal.returns-then-y1-y2
unfolding cross_first_x
returns-then-y1-y2 c = rw (eq-eqb _ _ c.if-y1-y2.true)

pub returns-then-arrow : goal.returns-then-arrow
unfolding cross_first_x
returns-then-arrow c = rw (ne_eqb _ _ c.if-y1-y2.false, c.if-arrow.true, c.against_flow.ensures)

pub returns : goal.returns
unfolding cross_first_x
returns c = rw (ne_eqb _ _ c.if-y1-y2.false, c.if-arrow.false, c.corner.ensures)
