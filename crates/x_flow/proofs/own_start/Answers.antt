-- `own_start` gives the stroke at the start of a leg, where it has its own.
use Rattle.x_flow.specs.XFlow.{own_start_x}
use Rattle.x_flow.proofs.own_start.Goals as goal

pub returns-then-strokes : goal.returns-then-strokes
unfolding own_start_x
returns-then-strokes c = rw (c.if-strokes.true, c.horizontal.ensures)

pub returns-else-strokes : goal.returns-else-strokes
unfolding own_start_x
returns-else-strokes c = rw c.if-strokes.false
