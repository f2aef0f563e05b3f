-- `touched` is the rows that a thing of an image touches.
use Rattle.finding.proofs.touched.Goals as goal

pub returns : goal.returns
returns c = rw c.tables_of.ensures.value at c.touched_rows.ensures
