-- `border_rows` gives the rows of a subgraph's border.
use Rattle.frame.proofs.subgraphs.border_rows.Goals as goal

pub returns-then-has_border : goal.returns-then-has_border
returns-then-has_border c = rw (← c.has_border.ensures, c.if-has_border.true) c.box_rows.ensures

pub returns-else-has_border : goal.returns-else-has_border
returns-else-has_border c = rw (← c.has_border.ensures, c.if-has_border.false)
