-- `trunk` gives the line to a bend, where there is a trunk.
use Rattle.y_flow.specs.YFlow.{trunk_y}
use Rattle.y_flow.proofs.trunk.Goals as goal

pub returns-then-v : goal.returns-then-v
unfolding trunk_y
returns-then-v c = rw (c.if-v.true, c.line_of.ensures, c.start_head-head.ensures)

pub returns-else-v : goal.returns-else-v
unfolding trunk_y
returns-else-v c = rw c.if-v.false
