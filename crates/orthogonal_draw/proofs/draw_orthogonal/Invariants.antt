-- `draw_orthogonal` draws an Orthogonal path leg by leg. The invariant: the walk stands before a leg, and the legs before it are drawn. The measure: how many
-- legs are left.
use lib.ListN.{length}
use mathlib.Core.Path.{◌≡◌}
use Rattle.orthogonal.specs.Walk.{legs_left}
use Rattle.window.specs.Window.{canvas_of}
use Rattle.orthogonal_draw.proofs.Laws.{WalkInked}
use Rattle.orthogonal_draw.proofs.draw_orthogonal.Given as goal

abbrev pub invariant-loop-leg : goal.invariant-loop-leg
invariant-loop-leg l =
    (length l.cells ≡ length l.initial.cells)
    × (length l.colours ≡ length l.initial.colours)
    × (length l.stamps ≡ length l.initial.stamps)
    × WalkInked l.pen l.ranges l.e l.points (canvas_of l.pen.lent l.initial.cells l.initial.colours l.initial.stamps) l.target l.source l.cursor l.cells l.colours l.stamps

abbrev pub decreases-loop-leg : goal.decreases-loop-leg
decreases-loop-leg l = legs_left l.e l.points l.cursor
