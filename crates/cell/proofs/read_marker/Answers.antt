-- `read_marker` reads the three fields of a marker from any word.
use Rattle.cell.specs.OneCell.{read_marker}
use Rattle.cell.proofs.read_marker.Goals as goal

pub returns : goal.returns
unfolding read_marker
returns c = rw (c.from.ensures, c.from-2.ensures)
