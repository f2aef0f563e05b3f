-- `loop_rows` gives the row of a self-loop, where the window has it.
use Rattle.frame.proofs.nodes.loop_rows.Goals as goal

pub returns : goal.returns
returns c = rw (c.row_at.ensures, c.in-Some.is)
