-- `orthogonal_reach` gives the rows of an Orthogonal path. The invariant: what is passed so far, with the points left, comes to all.
use borrow.Author.Rules.{rules}
use Rattle.orthogonal_reach.proofs.Passing.{pass_begins, pass_turns, pass_ends}
use Rattle.orthogonal_reach.proofs.orthogonal_reach.Goals as goal

pub loop-k-init : goal.loop-k-init
loop-k-init c = rw c.source_point.ensures (pass_begins _ _ _)

pub loop-k-preserved : goal.loop-k-preserved
loop-k-preserved c = pass_turns _ _ _ _ _ c.loop-k.invariant _ _ (search rules) (search rules) c.pass_point-passed.ensures

pub returns : goal.returns
returns c = pass_ends _ _ _ _ _ c.loop-k.invariant _ _ (search rules) (search rules) c.pass_point-all.ensures
