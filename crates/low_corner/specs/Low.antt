-- Code 6, leg by leg: "a MultiSegment corner lies below 0".
use Rattle.std.specs.Prelude.{ℕ, ◌+◌, Bool, List, Option, Some, None}
use Rattle.std.specs.Bool.{then_some}
use Rattle.ground.specs.First.{first_from}
use Rattle.image.specs.declared.Edge.{Edge}
use Rattle.image.specs.declared.Path.{Path}
use Rattle.image.specs.declared.Path.TheVariants.{Direct, Corner, SideChannel, MultiSegment, Orthogonal, Spline}
use Rattle.image.specs.declared.FlowAxis.{FlowAxis}
use Rattle.image.specs.declared.FlowAxis.TheVariants.{Y, X}
use Rattle.image.specs.Spans.{point_count}
use Rattle.flow.specs.declared.Leg.{Leg}
use Rattle.flow.specs.Flow.{corner_steps}
use Rattle.path.specs.Pieces.{leg_at}
use Rattle.path.specs.Corners.{leg_below}
use Rattle.low_corner.specs.declared.LowCorner.{LowCorner}

-- leg k of a path through points has a corner below 0
abbrev pub leg_low : Edge → ℕ → List ℕ → ℕ → Bool
leg_low e offset points k = leg_below e.flow_axis e offset (leg_at e points k)

-- the first such leg
unfoldable pub low_leg : Edge → ℕ → List ℕ → Option ℕ
low_leg e offset points = first_from (λ k. then_some (leg_low e offset points k) k) 0 (point_count points + 1)

-- where a leg starts along the flow: on a row on Y flow, on a column on X flow
unfoldable pub leg_start : FlowAxis → Leg → ℕ
leg_start Y leg = leg.y1
leg_start X leg = leg.x1

-- the corner of leg k, so many steps from its leg's start
unfoldable pub corner_at : FlowAxis → ℕ → ℕ → Leg → LowCorner
corner_at axis offset k leg = record { axis = axis; leg = k; start = leg_start axis leg; steps = corner_steps offset leg }

-- that of the leg that was found
unfoldable pub corner_of : Edge → ℕ → List ℕ → Option ℕ → Option LowCorner
corner_of e offset points None = None
corner_of e offset points (Some k) = Some (corner_at e.flow_axis offset k (leg_at e points k))

unfoldable pub low_of : Path → Edge → List ℕ → Option LowCorner
low_of Direct e points = None
low_of (Corner bend) e points = None
low_of (SideChannel channel start end) e points = None
low_of (MultiSegment span offset) e points = corner_of e offset points (low_leg e offset points)
low_of (Orthogonal span) e points = None
low_of Spline e points = None

-- the first corner of an edge that lies below 0
abbrev pub low_corner : Edge → List ℕ → Option LowCorner
low_corner e points = low_of e.path e points
