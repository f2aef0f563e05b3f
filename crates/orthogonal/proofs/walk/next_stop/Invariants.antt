-- `next_stop` is the first point from k on that differs. The invariant: from point i on it is the same.
use mathlib.Core.Path.{◌≡◌}
use Rattle.orthogonal.specs.Walk.{next_stop}
use Rattle.orthogonal.proofs.walk.next_stop.Given as goal

abbrev pub invariant-loop-i : goal.invariant-loop-i
invariant-loop-i l = next_stop l.e l.points l.a l.i ≡ next_stop l.e l.points l.a l.k
