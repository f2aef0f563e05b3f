-- `source_after` lets the first leg decide the source's arrow.
use Rattle.arrows.proofs.source_after.Goals as goal

pub returns-then-leg : goal.returns-then-leg
returns-then-leg c = rw (c.if-leg.true, ← c.source_marker.ensures) c.end_mark.ensures

pub returns-else-leg : goal.returns-else-leg
returns-else-leg c = rw c.if-leg.false
