-- `corner_at` tells where the corner of a leg lies.
use Rattle.low_corner.specs.Low.{corner_at}
use Rattle.low_corner.proofs.corner_at.Goals as goal

pub returns : goal.returns
unfolding corner_at
returns c = rw (c.leg_start.ensures, c.corner_steps.ensures.0)
