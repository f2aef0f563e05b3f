-- `end_head` gives the arrow one cell before the end, which points with the flow.
use Rattle.y_flow.proofs.end_head.Goals as goal

pub returns-then-s : goal.returns-then-s
returns-then-s c = rw c.if-s.true c.end_head.ensures

pub returns-else-s : goal.returns-else-s
returns-else-s c = rw c.if-s.false c.end_head-else-s.ensures
