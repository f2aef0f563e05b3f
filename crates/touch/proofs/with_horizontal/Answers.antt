-- `with_horizontal` joins a row more, if a column lies strictly between two.
use Rattle.touch.proofs.with_horizontal.Goals as goal

pub returns : goal.returns
returns c = (rw (← c.horizontal_rows.ensures) c.with_rows.ensures.0, c.with_rows.ensures.1)
