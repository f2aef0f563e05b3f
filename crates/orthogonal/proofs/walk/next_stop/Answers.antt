-- `next_stop` is the first point from k on that differs. The invariant: from point i on it is the same.
use borrow.Author.Rules.{rules}
use native.Mathlib.Omega.{arith}
use Rattle.orthogonal.proofs.Walked.{no_stop, stop_repeated, stop_found}
use Rattle.orthogonal.proofs.walk.next_stop.Goals as goal

pub loop-i-preserved : goal.loop-i-preserved
loop-i-preserved c = stop_repeated _ _ _ _ _ (search rules) (search rules) _ c.path_point-point.ensures (cc)

pub returns-then-not-same_point : goal.returns-then-not-same_point
returns-then-not-same_point c = stop_found _ _ _ _ _ (search rules) (search rules) _ c.path_point-point.ensures (cc)

pub returns : goal.returns
returns c = no_stop _ _ _ _ _ c.loop-i.invariant (omega arith)
