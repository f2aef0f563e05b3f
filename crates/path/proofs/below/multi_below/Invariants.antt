-- `multi_below` says whether some leg has a corner below 0. The invariant: what is found of the legs left is what is found of all.
use Rattle.path.proofs.Multi.{LookedTo}
use Rattle.path.proofs.below.multi_below.Given as goal

abbrev pub invariant-loop-k : goal.invariant-loop-k
invariant-loop-k l = LookedTo l.e l.offset l.points l.a l.k
