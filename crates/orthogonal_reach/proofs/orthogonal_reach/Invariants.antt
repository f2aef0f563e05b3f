-- `orthogonal_reach` gives the rows of an Orthogonal path. The invariant: what is passed so far, with the points left, comes to all.
use Rattle.orthogonal_reach.proofs.Passing.{PassedTo}
use Rattle.orthogonal_reach.proofs.orthogonal_reach.Given as goal

abbrev pub invariant-loop-k : goal.invariant-loop-k
invariant-loop-k l = PassedTo l.window l.e l.points l.passed l.k
