-- `paint_text` paints the placed labels, the nodes and the subgraph labels in turn.
use borrow.Author.Rules.{rules}
use Rattle.window.proofs.Theorems.{ready_after}
use Rattle.compose.proofs.Laws.{ready_long, three_inked}
use Rattle.compose.proofs.stages.paint_text.Goals as goal

pub paint_labels-requires : goal.paint_labels-requires
paint_labels-requires c = (c.requires.0, ready_after _ _ _ _ _ _ _ _ _ _ c.paint_nodes.ensures (ready_after _ _ _ _ _ _ _ _ _ _ c.paint_placed_labels.ensures c.requires.1))

pub paint_nodes-requires : goal.paint_nodes-requires
paint_nodes-requires c = (search rules, search (ready_long, rules))

pub returns : goal.returns
returns c = search (three_inked, rules)
