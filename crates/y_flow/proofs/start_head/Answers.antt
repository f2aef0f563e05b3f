-- `start_head` gives the arrow one cell from the start, which points against the flow.
use Rattle.y_flow.proofs.start_head.Goals as goal

pub returns : goal.returns
returns c = rw (← c.against_flow.ensures) c.start_head.ensures
