-- `leg_start` is where a leg starts along the flow.
use Rattle.low_corner.specs.Low.{leg_start}
use Rattle.low_corner.proofs.leg_start.Goals as goal

pub returns-in-Y : goal.returns-in-Y
unfolding leg_start
returns-in-Y c = rw c.in-Y.is

pub returns-in-X : goal.returns-in-X
unfolding leg_start
returns-in-X c = rw c.in-X.is
