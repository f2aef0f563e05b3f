-- `corner_row` gives the row of a leg's corner.
use Rattle.y_flow.specs.YFlow.{corner_row}
use Rattle.y_flow.proofs.corner_row.Goals as goal

pub returns : goal.returns
unfolding corner_row
returns c = (rw (← c.sign.ensures, ← c.corner_steps.ensures.0) c.along.ensures.0, c.along.ensures.1)
