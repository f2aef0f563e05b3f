-- `paint_label` paints a subgraph's label, where it has one.
use borrow.Author.Rules.{rules}
use Rattle.text.proofs.Laws.{fitting_few}
use Rattle.frame_paint.proofs.Laws.{label_inked, no_label}
use Rattle.frame_paint.proofs.subgraphs.paint_label.Goals as goal

pub text_at-requires : goal.text_at-requires
text_at-requires c = (search rules, (search rules, search (fitting_few, rules)))

pub returns-then-has_label : goal.returns-then-has_label
returns-then-has_label c = search (label_inked, rules)

pub returns-else-has_label : goal.returns-else-has_label
returns-else-has_label c = search (no_label, rules)
