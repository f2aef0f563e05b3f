-- `look_rows` gives the rows of the window that a node touches which looks so.
use Rattle.frame.specs.Computed.{look_rows}
use Rattle.frame.proofs.nodes.look_rows.Goals as goal

pub returns-in-Hidden : goal.returns-in-Hidden
unfolding look_rows
returns-in-Hidden c = rw c.in-Hidden.is

pub returns-in-Dummy : goal.returns-in-Dummy
unfolding look_rows
returns-in-Dummy c = rw (c.row_at.ensures, c.in-Dummy.is)

pub returns-in-Box : goal.returns-in-Box
unfolding look_rows
returns-in-Box c = rw (c.join.ensures, c.loop_rows.ensures, c.box_rows.ensures, c.in-Box.is)

pub returns-in-Simple : goal.returns-in-Simple
unfolding look_rows
returns-in-Simple c = rw (c.join-in-Simple.ensures, c.loop_rows-in-Simple.ensures, c.row_at-in-Simple.ensures, c.in-Simple.is)

pub returns-in-Blank : goal.returns-in-Blank
unfolding look_rows
returns-in-Blank c = rw (c.loop_rows-in-Blank.ensures, c.in-Blank.is)
