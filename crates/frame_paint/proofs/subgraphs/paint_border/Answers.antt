-- `paint_border` paints a subgraph's border, where it has one.
use borrow.Author.Rules.{rules}
use Rattle.frame_paint.proofs.Laws.{border_inked, no_border}
use Rattle.frame_paint.proofs.subgraphs.paint_border.Goals as goal

pub returns-then-has_border : goal.returns-then-has_border
returns-then-has_border c = search (border_inked, rules)

pub returns-else-has_border : goal.returns-else-has_border
returns-else-has_border c = search (no_border, rules)
