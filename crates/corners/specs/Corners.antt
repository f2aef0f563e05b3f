-- Code 6: "a MultiSegment corner lies below 0", place "edge's first word".
use Rattle.std.specs.Prelude.{ℕ, ◌≤◌, Bool, not, List, ◌≡◌, None}
use Rattle.ground.specs.Judged.{Judged}
use Rattle.layout.specs.declared.Tables.{Tables}
use Rattle.image.specs.declared.Edge.{Edge}
use Rattle.image.specs.declared.FlowAxis.TheVariants.{Y, X}
use Rattle.image.specs.declared.Path.TheVariants.{MultiSegment}
use Rattle.image.specs.declared.Span.{Span}
use Rattle.image.specs.Records.{edge_at}
use Rattle.image.specs.Spans.{point_count}
use Rattle.flow.specs.declared.Leg.{Leg}
use Rattle.y_flow.specs.YFlow.{corner_row}
use Rattle.x_flow.specs.XFlow.{corner_column}
use Rattle.path.specs.Pieces.{leg_at}
use Rattle.path.specs.Corners.{corner_below}
use Rattle.elements.specs.Records.{judged_records}
use Rattle.things.specs.Things.{edge_points}

abbrev pub edge_below : List ℕ → Tables → ℕ → Bool
edge_below image ts k = corner_below (edge_at image ts.edges k) (edge_points image ts k)

unfoldable pub corners_judged : List ℕ → Tables → List Judged
corners_judged image ts = judged_records ts.edges (λ k. not (edge_below image ts k))

-- What an image keeps that code 6 does not refuse.

-- a leg whose ends differ across the flow has a corner, on a row on Y flow and on a column on X flow, that does not lie below 0
pub record LegAbove (e : Edge) (offset : ℕ) (leg : Leg) : Type 0 where
  pub row : e.flow_axis ≡ Y → (leg.x1 ≡ leg.x2 → ⊥) → corner_row e offset leg ≡ None → ⊥
  pub column : e.flow_axis ≡ X → (leg.y1 ≡ leg.y2 → ⊥) → corner_column e offset leg ≡ None → ⊥

-- each leg of a MultiSegment
abbrev pub CornersAbove : Edge → List ℕ → Type 0
CornersAbove e points =
    (span : Span) (offset leg : ℕ) → e.path ≡ MultiSegment span offset → leg ≤ point_count points → LegAbove e offset (leg_at e points leg)
