-- `paint_nodes` paints every node. The loop's invariant: the nodes left give what all of them give.
use Prim.Native.Nat.{◌≤◌, ◌-◌}
use mathlib.Core.Path.{◌≡◌}
use lib.ListN.{length}
use Rattle.window.specs.Window.{ink_window, canvas_of, Ready}
use Rattle.picture.specs.Writes.{node_writes, nodes}
use Rattle.stage.specs.Staged.{stage_left}
use Rattle.node_stages.proofs.paint_nodes.Given as goal

abbrev pub invariant-loop-k : goal.invariant-loop-k
invariant-loop-k l =
    (l.k ≤ l.count)
    × (length l.cells ≡ length l.initial.cells)
    × (length l.colours ≡ length l.initial.colours)
    × (length l.stamps ≡ length l.initial.stamps)
    × Ready l.lent l.v l.cells l.colours l.stamps
    × (stage_left l.v l.ranges (node_writes l.image l.ts) l.k l.count (canvas_of l.lent l.cells l.colours l.stamps)
    ≡ ink_window l.v l.ranges (nodes l.image l.ts) (canvas_of l.lent l.initial.cells l.initial.colours l.initial.stamps))

abbrev pub decreases-loop-k : goal.decreases-loop-k
decreases-loop-k l = l.count - l.k
