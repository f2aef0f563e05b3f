-- `box_at` is the border of a box.
use borrow.Author.Rules.{rules}
use Rattle.window.proofs.Theorems.{ready_after}
use Rattle.boxes.proofs.Laws.{box_done, box_missed}
use Rattle.boxes.proofs.box_at.Goals as goal

pub returns-then-misses : goal.returns-then-misses
returns-then-misses c = box_missed _ _ _ _ _ _ _ _ _ _ c.minus-right.ensures c.minus-bottom.ensures _ _ c.misses.ensures c.if-misses.true

pub returns : goal.returns
returns c = box_done _ _ _ _ _ _ _ _ _ _ c.minus-right.ensures c.minus-bottom.ensures _ _ _ c.corners.ensures c.sides.ensures

pub sides-requires : goal.sides-requires
sides-requires c = ready_after _ _ _ _ _ _ _ _ _ _ c.corners.ensures (search rules)
