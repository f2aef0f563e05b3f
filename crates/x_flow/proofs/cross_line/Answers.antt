-- `cross_line` gives the strokes strictly inside a crossing.
use Rattle.x_flow.specs.XFlow.{cross_line_x}
use Rattle.x_flow.proofs.cross_line.Goals as goal

pub returns : goal.returns
unfolding cross_line_x
returns c = rw c.line_of.ensures
