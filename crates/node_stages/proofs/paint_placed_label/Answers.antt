-- `paint_placed_label` paints a placed label on a row of the window; one on any other row makes nothing there.
use borrow.Author.Rules.{rules}
use Rattle.node_stages.proofs.Laws.{label_elsewhere}
use Rattle.node_stages.proofs.paint_placed_label.Goals as goal

pub returns-else-has : goal.returns-else-has
returns-else-has c = search (label_elsewhere, rules)
