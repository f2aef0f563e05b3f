-- `label_row` gives the row of a subgraph's label.
use Rattle.frame.proofs.subgraphs.label_row.Goals as goal

pub returns-in-InsideTop : goal.returns-in-InsideTop
returns-in-InsideTop c = rw (c.number.ensures.0, c.in-InsideTop.is)

pub returns-in-InsideBottom : goal.returns-in-InsideBottom
returns-in-InsideBottom c = rw (c.minus.ensures, c.number-in-InsideBottom-2.ensures.0, c.number-in-InsideBottom.ensures.0, c.in-InsideBottom.is)
