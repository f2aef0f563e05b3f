-- `low_leg` finds the first leg that has a corner below 0, and tells where that lies. The invariant: what is found among the legs left is what is found
-- among all.
use borrow.Author.Rules.{rules}
use Rattle.low_corner.proofs.Laws.{look_whole, look_hit, look_on, look_done}
use Rattle.low_corner.proofs.low_leg.Goals as goal

pub loop-k-init : goal.loop-k-init
loop-k-init c = look_whole _ _ _

pub returns-then-leg_below : goal.returns-then-leg_below
returns-then-leg_below c = search (look_hit, rules)

pub loop-k-preserved : goal.loop-k-preserved
loop-k-preserved c = search (look_on, rules)

pub returns : goal.returns
returns c = search (look_done, rules)
