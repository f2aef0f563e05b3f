-- `next_marked` passes over things that are not marked. The invariant: so are those passed.
use Prim.Native.Nat.{◌-◌, ◌≤◌}
use Rattle.stage.specs.Staged.{Unmarked}
use Rattle.stage.proofs.next_marked.Given as goal

abbrev pub invariant-loop-k : goal.invariant-loop-k
invariant-loop-k l = (l.from ≤ l.k) × (l.k ≤ 4294967311) × Unmarked l.marks l.kind l.from l.k

abbrev pub decreases-loop-k : goal.decreases-loop-k
decreases-loop-k l = l.count - l.k
