-- `row_at` gives the row where the window has it.
use Rattle.frame.proofs.frames.row_at.Goals as goal

pub returns : goal.returns
returns c = rw (c.clip.ensures, c.number-row.ensures.0)
