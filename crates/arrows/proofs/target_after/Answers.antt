-- `target_after` lets the last leg decide the target's arrow.
use Rattle.arrows.proofs.target_after.Goals as goal

pub returns-then-leg : goal.returns-then-leg
returns-then-leg c = rw (c.if-leg.true, ← c.target_marker.ensures) c.end_mark.ensures

pub returns-else-leg : goal.returns-else-leg
returns-else-leg c = rw c.if-leg.false
