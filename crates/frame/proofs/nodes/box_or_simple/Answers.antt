-- `box_or_simple` chooses a box where it is tall and wide enough.
use Rattle.frame.proofs.nodes.box_or_simple.Goals as goal

pub returns-then-at_least : goal.returns-then-at_least
returns-then-at_least c = rw (← c.at_least.ensures, c.if-at_least.true)

pub returns-else-at_least : goal.returns-else-at_least
returns-else-at_least c = rw (← c.at_least.ensures, c.if-at_least.false)
