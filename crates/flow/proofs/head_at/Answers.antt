-- `head_at` gives an arrow at a place, where one is wanted and the place is there.
use Rattle.flow.specs.Flow.{head_at}
use Rattle.flow.proofs.head_at.Goals as goal

pub returns-in_err-place : goal.returns-in_err-place
unfolding head_at
returns-in_err-place c = rw (c.from_residual.ensures, c.in_err-place.was)

pub returns-then-wanted : goal.returns-then-wanted
unfolding head_at
returns-then-wanted c = rw (c.in_ok-place.was, c.if-wanted.true)

pub returns-else-wanted : goal.returns-else-wanted
unfolding head_at
returns-else-wanted c = rw (c.in_ok-place.was, c.if-wanted.false)
