-- `paint_border` paints the border of a subgraph that is marked; of any other no ink falls into the window.
use borrow.Author.Rules.{rules}
use Rattle.subgraph_stages.proofs.Laws.{border_painted, border_passed}
use Rattle.subgraph_stages.proofs.paint_border.Goals as goal

pub returns-then-is_marked : goal.returns-then-is_marked
returns-then-is_marked c = border_painted _ _ _ _ _ _ _ _ _ c.paint_border.ensures (search rules) (search rules)

pub returns-else-is_marked : goal.returns-else-is_marked
returns-else-is_marked c = search (border_passed, rules)
