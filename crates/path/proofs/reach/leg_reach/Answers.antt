-- `leg_reach` gives what is reached with a leg more, along the axis.
use borrow.Author.Rules.{rules}
use Rattle.path.proofs.Laws.{leg_on_y, leg_on_x}
use Rattle.path.proofs.reach.leg_reach.Goals as goal

pub returns-in-Y : goal.returns-in-Y
returns-in-Y c = (leg_on_y _ _ _ _ _ _ _ c.leg_reach.ensures.0 (search rules), search rules)

pub returns-in-X : goal.returns-in-X
returns-in-X c = (leg_on_x _ _ _ _ _ _ _ c.leg_reach-in-X.ensures.0 (search rules), search rules)
