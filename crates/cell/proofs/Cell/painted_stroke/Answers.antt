-- `Cell::painted_stroke` lays a stroke on a word, as the rule says.
use Rattle.cell.specs.OneCell.{painted_stroke}
use Rattle.cell.proofs.Cell.painted_stroke.Goals as goal

pub returns : goal.returns
unfolding painted_stroke
returns c = rw (c.pack.ensures, c.stroked.ensures, c.read.ensures)
