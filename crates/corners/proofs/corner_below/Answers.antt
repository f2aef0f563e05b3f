-- `corner_below` tells whether a corner of an edge lies below 0.
use borrow.Author.Rules.{rules}
use Rattle.corners.proofs.Laws.{edge_below_lem, legless_below}
use Rattle.corners.proofs.corner_below.Goals as goal

pub returns-then-bits-ne-PATH_MULTI_SEGMENT : goal.returns-then-bits-ne-PATH_MULTI_SEGMENT
returns-then-bits-ne-PATH_MULTI_SEGMENT c = search (legless_below, rules)

pub returns : goal.returns
returns c = search (edge_below_lem, rules)
