-- `node_rows` gives the rows of the window that a node touches.
use Rattle.frame.specs.Computed.{node_rows}
use Rattle.frame.proofs.nodes.node_rows.Goals as goal

pub returns : goal.returns
unfolding node_rows
returns c = rw (c.look_rows.ensures, c.look_of.ensures)
