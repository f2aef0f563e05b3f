-- `cross_run` gives the run strictly inside a crossing, if there is one.
use borrow.Author.Tests.{lt-ltb, le-ltb}
use Rattle.y_flow.specs.YFlow.{cross_run_y}
use Rattle.y_flow.proofs.cross_run.Goals as goal

pub returns-then-first-end : goal.returns-then-first-end
unfolding cross_run_y
returns-then-first-end c = rw (← c.min-first.ensures, ← c.max-end.ensures, lt-ltb _ _ c.if-first-end.true)

pub returns-else-first-end : goal.returns-else-first-end
unfolding cross_run_y
returns-else-first-end c = rw (← c.min-first.ensures, ← c.max-end.ensures, le-ltb _ _ c.if-first-end.false)
