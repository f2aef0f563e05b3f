-- `take_on` takes on the elements that begin above the end. The invariant: those passed.
use Prim.Native.Nat.{◌-◌, ◌≤◌}
use Rattle.sweep.proofs.Laws.{Taking}
use Rattle.sweep.proofs.take_on.Given as goal

abbrev pub invariant-loop-k : goal.invariant-loop-k
invariant-loop-k l =
    (l.many ≤ l.k) × Taking l.image l.ts l.top l.end l.cursor l.active l.initial.list l.list l.k l.many
