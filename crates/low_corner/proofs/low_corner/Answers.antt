-- `low_corner` finds the first corner of an edge of an image that lies below 0.
use Rattle.low_corner.proofs.low_corner.Goals as goal

pub returns : goal.returns
returns c = rw (c.low_in.ensures, c.points_of.ensures, c.edge_at-e.ensures, c.tables_of-ts.ensures.value)
