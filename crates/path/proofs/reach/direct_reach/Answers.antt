-- `direct_reach` gives what a line reaches, along the axis.
use borrow.Author.Rules.{rules}
use Rattle.path.proofs.Laws.{direct_on_y, direct_on_x}
use Rattle.path.proofs.reach.direct_reach.Goals as goal

pub returns-in-Y : goal.returns-in-Y
returns-in-Y c = direct_on_y _ _ _ _ _ c.direct_reach.ensures.0 (search rules) (search rules)

pub returns-in-X : goal.returns-in-X
returns-in-X c = direct_on_x _ _ _ _ _ c.direct_reach-in-X.ensures.0 (search rules) (search rules)
