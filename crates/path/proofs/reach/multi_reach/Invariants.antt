-- `multi_reach` gives what a MultiSegment reaches, leg by leg. The invariant: what is reached, with the legs left, is all.
use Rattle.path.proofs.Multi.{ReachedTo}
use Rattle.path.proofs.reach.multi_reach.Given as goal

abbrev pub invariant-loop-k : goal.invariant-loop-k
invariant-loop-k l = ReachedTo l.window l.e l.offset l.points l.reach l.a l.k
