-- `own_start` gives the stroke at the start of a leg, where it has its own.
use Rattle.y_flow.specs.YFlow.{own_start_y}
use Rattle.y_flow.proofs.own_start.Goals as goal

pub returns-then-strokes : goal.returns-then-strokes
unfolding own_start_y
returns-then-strokes c = rw (c.if-strokes.true, c.vertical.ensures)

pub returns-else-strokes : goal.returns-else-strokes
unfolding own_start_y
returns-else-strokes c = rw c.if-strokes.false
