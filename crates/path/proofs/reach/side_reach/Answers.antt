-- `side_reach` gives what a side channel reaches, along the axis.
use borrow.Author.Rules.{rules}
use native.Mathlib.Omega.{arith}
use Rattle.path.proofs.Laws.{side_on_y, side_on_x}
use Rattle.path.proofs.reach.side_reach.Goals as goal

pub side_reach-requires : goal.side_reach-requires
side_reach-requires c = rw c.no_reach.ensures (omega arith)

pub returns-in-Y : goal.returns-in-Y
returns-in-Y c = side_on_y _ _ _ _ _ _ _ _ c.side_reach.ensures.0 (search rules) (search rules)

pub returns-in-X : goal.returns-in-X
returns-in-X c = side_on_x _ _ _ _ _ _ _ _ c.side_reach-in-X.ensures.0 (search rules) (search rules)
