-- `flush_rows` puts the runs of each row into its cells. The invariant: the rows left make of the cells what all rows make of the first.
use Prim.Native.Nat.{◌-◌}
use mathlib.Core.Path.{◌≡◌}
use Rattle.ground.specs.Turns.{turns}
use Rattle.runs.specs.Kept.{kept_runs}
use Rattle.flush.specs.Rows.{cells_at}
use Rattle.flush.proofs.cells.flush_rows.Given as goal

abbrev pub invariant-loop-y : goal.invariant-loop-y
invariant-loop-y l =
    turns (cells_at l.v l.ranges (kept_runs l.scratch l.n)) l.y (l.end - l.y) l.cells ≡ turns (cells_at l.v l.ranges (kept_runs l.scratch l.n)) l.base (l.end - l.base) l.initial.cells
