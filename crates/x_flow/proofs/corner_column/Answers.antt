-- `corner_column` gives the column of a leg's corner.
use Rattle.x_flow.specs.XFlow.{corner_column}
use Rattle.x_flow.proofs.corner_column.Goals as goal

pub returns : goal.returns
unfolding corner_column
returns c = (rw (← c.sign.ensures, ← c.corner_steps.ensures.0) c.along.ensures.0, c.along.ensures.1)
