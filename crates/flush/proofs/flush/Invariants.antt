-- `flush` puts the runs into the rows of a window, block after block. The invariant: the rows left make of the cells and of the colours what all rows make of
-- the first ones, by runs that say the same. The measure: how many rows are left.
use Prim.Native.Nat.{◌-◌, ◌≤◌}
use mathlib.Core.Path.{◌≡◌}
use lib.ListN.{length}
use Rattle.ground.specs.Turns.{turns}
use Rattle.window.specs.Window.{plane_of}
use Rattle.runs.specs.Kept.{kept_runs}
use Rattle.flush.specs.Threads.{SameRuns}
use Rattle.flush.specs.Rows.{cells_at, colours_at}
use Rattle.flush.proofs.flush.Given as goal

abbrev pub invariant-loop-base : goal.invariant-loop-base
invariant-loop-base l =
    (l.base ≤ l.last)
    × (l.first ≤ l.base)
    × (length l.cells ≡ length l.initial.cells)
    × (length l.colours ≡ length l.initial.colours)
    × (length l.scratch ≡ length l.initial.scratch)
    × SameRuns l.scratch l.initial.scratch
    × (turns (cells_at l.v l.ranges (kept_runs l.initial.scratch l.kept)) l.base (l.last - l.base) l.cells
    ≡ turns (cells_at l.v l.ranges (kept_runs l.initial.scratch l.kept)) l.first (l.last - l.first) l.initial.cells)
    × (turns (colours_at l.v (kept_runs l.initial.scratch l.kept) (plane_of l.lent l.stamps)) l.base (l.last - l.base) (plane_of l.lent l.colours)
    ≡ turns (colours_at l.v (kept_runs l.initial.scratch l.kept) (plane_of l.lent l.stamps)) l.first (l.last - l.first) (plane_of l.lent l.initial.colours))

abbrev pub decreases-loop-base : goal.decreases-loop-base
decreases-loop-base l = l.last - l.base
