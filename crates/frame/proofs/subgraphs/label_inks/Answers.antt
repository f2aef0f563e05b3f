-- `label_inks` says whether a subgraph's label makes ink.
use Rattle.frame.specs.Computed.{label_inks}
use Rattle.frame.proofs.subgraphs.label_inks.Goals as goal

pub returns-then-has_label : goal.returns-then-has_label
unfolding label_inks
returns-then-has_label c = rw (← c.has_label.ensures, c.if-has_label.true, c.any_ink.ensures, c.fitting_part.ensures)

pub returns-else-has_label : goal.returns-else-has_label
unfolding label_inks
returns-else-has_label c = rw (← c.has_label.ensures, c.if-has_label.false)
