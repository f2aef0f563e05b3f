-- `across_both` is the strokes along the top and the bottom row.
use borrow.Author.Rules.{rules}
use Rattle.window.proofs.Theorems.{ready_after}
use Rattle.boxes.proofs.Laws.{across_done}
use Rattle.boxes.proofs.across_both.Goals as goal

pub returns : goal.returns
returns c = across_done _ _ _ _ _ _ _ _ _ _ _ _ _ _ c.horizontal-arms.ensures c.plain-one.ensures c.plain-two.ensures c.horizontal.ensures c.horizontal-2.ensures

pub horizontal-requires-2 : goal.horizontal-requires-2
horizontal-requires-2 c = ready_after _ _ _ _ _ _ _ _ _ _ c.horizontal.ensures (search rules)
