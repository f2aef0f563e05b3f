-- `span_good` tells whether a span lies in its table.
use Rattle.edge_rules.proofs.span_good.Goals as goal

pub returns : goal.returns
returns c = rw (c.number.ensures.0, c.number-2.ensures.0)
