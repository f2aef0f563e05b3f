-- `subgraph_rows` gives the rows of the window that a subgraph touches.
use Rattle.frame.specs.Computed.{subgraph_rows}
use Rattle.frame.proofs.subgraphs.subgraph_rows.Goals as goal

pub returns : goal.returns
unfolding subgraph_rows
returns c = rw (c.join.ensures, c.border_rows.ensures, c.label_rows.ensures)
