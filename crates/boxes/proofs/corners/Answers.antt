-- `corners` is the four corners of a box.
use borrow.Author.Rules.{rules}
use Rattle.window.proofs.Theorems.{ready_after}
use Rattle.boxes.proofs.Laws.{corners_done}
use Rattle.boxes.proofs.corners.Goals as goal

pub returns : goal.returns
returns c = corners_done _ _ _ _ _ _ _ _ _ _ _ c.corner_pair.ensures c.corner_pair-2.ensures

pub corner_pair-requires-2 : goal.corner_pair-requires-2
corner_pair-requires-2 c = ready_after _ _ _ _ _ _ _ _ _ _ c.corner_pair.ensures (search rules)
