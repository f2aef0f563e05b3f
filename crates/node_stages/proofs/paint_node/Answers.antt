-- `paint_node` paints a node that is marked; one that is not makes no ink in the window.
use borrow.Author.Rules.{rules}
use Rattle.stage.proofs.Laws.{label_short}
use Rattle.node_stages.proofs.Laws.{node_painted, node_passed}
use Rattle.node_stages.proofs.paint_node.Goals as goal

pub paint_node-requires : goal.paint_node-requires
paint_node-requires c =
    (search rules, label_short _ _ _ _ _ _ _ c.requires.0 c.span_words-label.ensures (search rules))

pub returns-then-is_marked : goal.returns-then-is_marked
returns-then-is_marked c = node_painted _ _ _ _ _ c.requires.0 _ _ _ _ _ _ c.node_at-n.ensures c.span_words-label.ensures c.header_of-header.ensures c.paint_node.ensures

pub returns-else-is_marked : goal.returns-else-is_marked
returns-else-is_marked c = search (node_passed, rules)
