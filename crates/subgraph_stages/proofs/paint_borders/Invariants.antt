-- `paint_borders` paints the borders of all subgraphs, by index. The invariant: with those left, what is painted is the whole.
use Prim.Native.Nat.{◌-◌, ◌≤◌}
use mathlib.Core.Path.{◌≡◌}
use lib.ListN.{length}
use Rattle.window.specs.Window.{ink_window, canvas_of, Ready}
use Rattle.picture.specs.Writes.{border_writes, borders}
use Rattle.stage.specs.Staged.{stage_left}
use Rattle.subgraph_stages.proofs.paint_borders.Given as goal

abbrev pub invariant-loop-k : goal.invariant-loop-k
invariant-loop-k l =
    (l.k ≤ l.count)
    × (length l.cells ≡ length l.initial.cells)
    × (length l.colours ≡ length l.initial.colours)
    × (length l.stamps ≡ length l.initial.stamps)
    × Ready l.lent l.v l.cells l.colours l.stamps
    × (stage_left l.v l.ranges (border_writes l.image l.ts) l.k l.count (canvas_of l.lent l.cells l.colours l.stamps)
    ≡ ink_window l.v l.ranges (borders l.image l.ts) (canvas_of l.lent l.initial.cells l.initial.colours l.initial.stamps))

abbrev pub decreases-loop-k : goal.decreases-loop-k
decreases-loop-k l = l.count - l.k
