-- `with_vertical` joins the rows more that lie strictly between two rows.
use Rattle.touch.proofs.with_vertical.Goals as goal

pub returns : goal.returns
returns c = (rw (← c.vertical_rows.ensures) c.with_rows.ensures.0, c.with_rows.ensures.1)
