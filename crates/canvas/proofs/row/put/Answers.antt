-- `put` writes a cell after its neighbours are mended, and does nothing where the cell is equal.
use borrow.Author.Rules.{rules}
use lib.ListN.{length-set}
use Rattle.canvas.proofs.Laws.{put_equal, put_other}
use Rattle.canvas.proofs.row.put.Goals as goal

pub returns-then-row-x : goal.returns-then-row-x
returns-then-row-x c = put_equal _ _ _ _ c.if-row-x.true

pub shape_of-row : goal.shape_of-row
shape_of-row c = simp length-set (search rules)

pub returns : goal.returns
returns c = put_other _ _ _ _ _ _ (search rules) (search rules) c.blank_lead.ensures
