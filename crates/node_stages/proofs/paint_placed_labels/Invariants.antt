-- `paint_placed_labels` paints every placed label. The loop's invariant: the labels left give what all of them give.
use Prim.Native.Nat.{◌-◌}
use mathlib.Core.Path.{◌≡◌}
use Rattle.window.specs.Window.{ink_window, canvas_of, Ready}
use Rattle.picture.specs.Writes.{placed_label_writes, placed_labels}
use Rattle.stage.specs.Staged.{stage_left}
use Rattle.node_stages.proofs.paint_placed_labels.Given as goal

abbrev pub invariant-loop-k : goal.invariant-loop-k
invariant-loop-k l =
    Ready l.lent l.v l.cells l.colours l.stamps
    × (stage_left l.v l.ranges (placed_label_writes l.image l.ts) l.k l.count (canvas_of l.lent l.cells l.colours l.stamps)
    ≡ ink_window l.v l.ranges (placed_labels l.image l.ts) (canvas_of l.lent l.initial.cells l.initial.colours l.initial.stamps))
