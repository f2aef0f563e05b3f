-- `paint_label` paints the label of a subgraph that is marked; of any other no ink falls into the window.
use borrow.Author.Rules.{rules}
use Rattle.stage.proofs.Laws.{label_short}
use Rattle.subgraph_stages.proofs.Laws.{label_painted, label_passed}
use Rattle.subgraph_stages.proofs.paint_label.Goals as goal

pub returns-then-is_marked : goal.returns-then-is_marked
returns-then-is_marked c = label_painted _ _ _ _ _ _ _ _ _ c.paint_label.ensures c.requires.0.read (search rules) (search rules)

pub paint_label-requires : goal.paint_label-requires
paint_label-requires c = (search rules, search (label_short, rules))

pub returns-else-is_marked : goal.returns-else-is_marked
returns-else-is_marked c = search (label_passed, rules)
