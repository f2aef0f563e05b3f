-- `corner_reach` gives what a corner reaches, along the axis.
use borrow.Author.Rules.{rules}
use native.Mathlib.Omega.{arith}
use Rattle.path.proofs.Laws.{corner_on_y, corner_on_x}
use Rattle.path.proofs.reach.corner_reach.Goals as goal

pub corner_reach-requires : goal.corner_reach-requires
corner_reach-requires c = rw c.no_reach.ensures (omega arith)

pub returns-in-Y : goal.returns-in-Y
returns-in-Y c = corner_on_y _ _ _ _ _ _ c.corner_reach.ensures.0 (search rules) (search rules)

pub returns-in-X : goal.returns-in-X
returns-in-X c = corner_on_x _ _ _ _ _ _ c.corner_reach-in-X.ensures.0 (search rules) (search rules)
