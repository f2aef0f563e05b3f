-- `label_start_good` tells whether the start of an edge's label keeps its rule.
use Rattle.edge_rules.proofs.label_start_good.Goals as goal

pub returns-then-flag : goal.returns-then-flag
returns-then-flag c = rw (← c.flag.ensures, c.if-flag.true) c.span_good.ensures

pub returns-else-flag : goal.returns-else-flag
returns-else-flag c = rw (← c.flag.ensures, c.if-flag.false)
