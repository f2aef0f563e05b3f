-- `box_rows` gives the rows of a box that the window has.
use Rattle.frame.proofs.frames.box_rows.Goals as goal

pub returns : goal.returns
returns c = rw (c.clip.ensures, c.minus.ensures, c.number.ensures.0, c.number-first.ensures.0)
