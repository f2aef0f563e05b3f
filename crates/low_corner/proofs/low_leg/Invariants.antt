-- `low_leg` finds the first leg that has a corner below 0, and tells where that lies. The invariant: what is found among the legs left is what is found
-- among all.
use Rattle.low_corner.proofs.Laws.{Looked}
use Rattle.low_corner.proofs.low_leg.Given as goal

abbrev pub invariant-loop-k : goal.invariant-loop-k
invariant-loop-k l = Looked l.e l.offset l.points l.k
