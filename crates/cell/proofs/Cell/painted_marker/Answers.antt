-- `Cell::painted_marker` lays a marker on a word, as the rule says.
use Rattle.cell.specs.OneCell.{painted_marker}
use Rattle.cell.proofs.Cell.painted_marker.Goals as goal

pub returns : goal.returns
unfolding painted_marker
returns c = rw (c.pack.ensures, c.marked.ensures, c.read.ensures)
