-- `join` gives the rows from the least of both to the greatest.
use Rattle.rows.proofs.join.Goals as goal

pub returns : goal.returns
returns c = rw (c.in-Some.is, c.in-Some-other.is, c.min.ensures, c.max.ensures)
