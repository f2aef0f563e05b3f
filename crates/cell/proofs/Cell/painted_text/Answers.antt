-- `Cell::painted_text` lays text on a word, as the rule says.
use Rattle.cell.specs.OneCell.{painted_text}
use Rattle.cell.proofs.Cell.painted_text.Goals as goal

pub returns : goal.returns
unfolding painted_text
returns c = c.text.ensures
