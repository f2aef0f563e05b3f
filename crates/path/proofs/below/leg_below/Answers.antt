-- `leg_below` says whether a leg has a corner below 0.
use borrow.Author.Rules.{rules}
use Rattle.path.specs.Corners.{leg_below}
use Rattle.path.proofs.Laws.{bent_y_lem, bent_x_lem}
use Rattle.path.proofs.below.leg_below.Goals as goal

pub returns-then-leg : goal.returns-then-leg
returns-then-leg c = search (bent_y_lem, rules)

pub returns-else-leg : goal.returns-else-leg
unfolding leg_below
returns-else-leg c = search rules

pub returns-then-leg-2 : goal.returns-then-leg-2
returns-then-leg-2 c = search (bent_x_lem, rules)

pub returns-else-leg-2 : goal.returns-else-leg-2
unfolding leg_below
returns-else-leg-2 c = search rules
