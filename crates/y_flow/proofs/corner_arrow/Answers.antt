-- `corner_arrow` says whether an arrow replaces the first corner of a crossing.
use Rattle.y_flow.proofs.corner_arrow.Goals as goal

pub returns-then-s : goal.returns-then-s
returns-then-s c = rw (c.if-v.true, c.if-s.true)

pub returns-else-s : goal.returns-else-s
returns-else-s c = rw (c.if-v.true, c.if-s.false)
