-- `down_both` is the strokes down the left and the right column.
use borrow.Author.Rules.{rules}
use Rattle.window.proofs.Theorems.{ready_after}
use Rattle.boxes.proofs.Laws.{down_done}
use Rattle.boxes.proofs.down_both.Goals as goal

pub returns : goal.returns
returns c = down_done _ _ _ _ _ _ _ _ _ _ _ _ _ _ c.vertical-arms.ensures c.plain-one.ensures c.plain-two.ensures c.vertical.ensures c.vertical-2.ensures

pub vertical-requires-2 : goal.vertical-requires-2
vertical-requires-2 c = ready_after _ _ _ _ _ _ _ _ _ _ c.vertical.ensures (search rules)
