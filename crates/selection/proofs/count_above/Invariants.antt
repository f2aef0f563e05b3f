-- `count_above` halves the elements. The invariant: those before `low` begin above the end, those from `high` on begin below it.
use Prim.Native.Nat.{ℕ, ◌-◌, ◌≤◌, ◌<◌}
use Rattle.elements.specs.Elements.{first_row}
use Rattle.selection.specs.Selection.{BelowFrom}
use Rattle.selection.proofs.count_above.Given as goal

abbrev pub invariant-loop-low : goal.invariant-loop-low
invariant-loop-low l =
    (l.low ≤ l.high) × (l.high ≤ l.ts.elements.count) × BelowFrom l.image l.ts l.end l.high × ((k : ℕ) → k < l.low → first_row l.image l.ts k < l.end)

abbrev pub decreases-loop-low : goal.decreases-loop-low
decreases-loop-low l = l.high - l.low
