-- `tail` gives the line from a bend to the end.
use Rattle.x_flow.specs.XFlow.{tail_x}
use Rattle.x_flow.proofs.tail.Goals as goal

pub returns : goal.returns
unfolding tail_x
returns c = rw (c.line_of.ensures, c.end_head-head.ensures)
