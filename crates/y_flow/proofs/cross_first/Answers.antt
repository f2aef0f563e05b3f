-- `cross_first` gives the first corner of a crossing, or the arrow that replaces it.
use borrow.Author.Tests.{eq-eqb, ne_eqb}
use Rattle.y_flow.specs.YFlow.{cross_first_y}
use Rattle.y_flow.proofs.cross_first.Goals as goal

pub returns-then-x1-x2 : goal.returns-then-x1-x2
unfolding cross_first_y
returns-then-x1-x2 c = rw (eq-eqb _ _ c.if-x1-x2.true)

pub returns-then-arrow : goal.returns-then-arrow
unfolding cross_first_y
returns-then-arrow c = rw (ne_eqb _ _ c.if-x1-x2.false, c.if-arrow.true, c.against_flow.ensures)

pub returns : goal.returns
unfolding cross_first_y
returns c = rw (ne_eqb _ _ c.if-x1-x2.false, c.if-arrow.false, c.corner.ensures)
