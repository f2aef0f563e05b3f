-- `tail` gives the line from a bend to the end.
use Rattle.y_flow.specs.YFlow.{tail_y}
use Rattle.y_flow.proofs.tail.Goals as goal

pub returns : goal.returns
unfolding tail_y
returns c = rw (c.line_of.ensures, c.end_head-head.ensures)
