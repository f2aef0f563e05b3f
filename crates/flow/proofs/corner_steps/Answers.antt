-- `corner_steps` gives how far along the flow the corner of a leg lies.
use native.Mathlib.Omega.{arith}
use Rattle.flow.proofs.corner_steps.Goals as goal

pub returns-then-leg : goal.returns-then-leg
returns-then-leg c = (rw (c.if-leg.true, c.number.ensures.0), omega arith)
