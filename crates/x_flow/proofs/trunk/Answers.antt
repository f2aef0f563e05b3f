-- `trunk` gives the line to a bend, where there is a trunk.
use Rattle.x_flow.specs.XFlow.{trunk_x}
use Rattle.x_flow.proofs.trunk.Goals as goal

pub returns-then-v : goal.returns-then-v
unfolding trunk_x
returns-then-v c = rw (c.if-v.true, c.line_of.ensures, c.start_head-head.ensures)

pub returns-else-v : goal.returns-else-v
unfolding trunk_x
returns-else-v c = rw c.if-v.false
