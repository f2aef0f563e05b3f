-- `has_border` says whether a subgraph has a border.
use Rattle.frame.specs.Subgraphs.{has_border}
use Rattle.frame.proofs.subgraphs.has_border.Goals as goal

pub returns-then-is_arm : goal.returns-then-is_arm
unfolding has_border
returns-then-is_arm c = rw (← c.is_arm.ensures, c.if-is_arm.true) c.at_least.ensures

pub returns-else-is_arm : goal.returns-else-is_arm
unfolding has_border
returns-else-is_arm c = rw (← c.is_arm.ensures, c.if-is_arm.false)
