-- Code 6: "a MultiSegment corner lies below 0".
use Rattle.std.specs.Prelude.{ℕ, ◌+◌, Bool, true, false, not, ◌&&◌, List, eqb, Option, Some, None}
use Rattle.ground.specs.Each.{numbers, some}
use Rattle.image.specs.declared.Edge.{Edge}
use Rattle.image.specs.declared.Path.{Path}
use Rattle.image.specs.declared.Path.TheVariants.{Direct, Corner, SideChannel, MultiSegment, Orthogonal, Spline}
use Rattle.image.specs.declared.FlowAxis.{FlowAxis}
use Rattle.image.specs.declared.FlowAxis.TheVariants.{Y, X}
use Rattle.flow.specs.declared.Leg.{Leg}
use Rattle.y_flow.specs.YFlow.{corner_row}
use Rattle.x_flow.specs.XFlow.{corner_column}
use Rattle.image.specs.Spans.{point_count}
use Rattle.path.specs.Pieces.{leg_at}

unfoldable pub is_below : Option ℕ → Bool
is_below (Some n) = false
is_below None = true

-- a leg has a corner where its ends differ across the flow: on a row on Y flow, on a column on X flow
unfoldable pub leg_below : FlowAxis → Edge → ℕ → Leg → Bool
leg_below Y e offset leg = not (eqb leg.x1 leg.x2) && is_below (corner_row e offset leg)
leg_below X e offset leg = not (eqb leg.y1 leg.y2) && is_below (corner_column e offset leg)

unfoldable pub multi_below : Edge → ℕ → List ℕ → Bool
multi_below e offset points =
    some (numbers 0 (point_count points + 1)) (λ k. leg_below e.flow_axis e offset (leg_at e points k))

unfoldable pub below_of : Path → Edge → List ℕ → Bool
below_of Direct e points = false
below_of (Corner bend) e points = false
below_of (SideChannel channel start end) e points = false
below_of (MultiSegment span offset) e points = multi_below e offset points
below_of (Orthogonal span) e points = false
below_of Spline e points = false

-- a corner of the edge lies below 0
abbrev pub corner_below : Edge → List ℕ → Bool
corner_below e points = below_of e.path e points
