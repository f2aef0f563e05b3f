-- `fitting_part` gives the fitting part of a label in a box.
use Rattle.frame.proofs.frames.fitting_part.Goals as goal

pub returns : goal.returns
returns c = rw (c.fit_prefix.ensures, c.label_room.ensures)
