-- `list_elements` finds the first element whose thing is listed already, or leaves each thing's listing in its slot. The loop's invariant: the walk over
-- the elements left finds what the whole walk finds, and the slots hold the listings so far.
use Prim.Native.Nat.{◌≤◌}
use mathlib.Core.Path.{◌≡◌}
use lib.ListN.{length}
use Rattle.ground.specs.Judged.{first_bad}
use Rattle.elements.specs.Elements.{twice_judged}
use Rattle.elements.proofs.Laws.{Walk}
use Rattle.elements.proofs.list_elements.Given as goal

abbrev pub invariant-loop-k : goal.invariant-loop-k
invariant-loop-k l =
    (l.k ≤ l.ts.elements.count) × (length l.slots ≡ length l.initial.slots) × Walk l.image l.ts l.slots l.k (first_bad (twice_judged l.image l.ts))
