-- Code 6 finds nothing exactly where no corner of a MultiSegment lies below 0.
use Rattle.std.specs.Prelude.{Option, Some, None}
use native.Mathlib.Omega.{arith}
use Prim.Native.Nat.{ℕ, ◌+◌, ◌≤◌, ◌<◌}
use mathlib.Core.Bool.{Bool, false, not, ◌&&◌, and-false}
use mathlib.Core.List.{List}
use mathlib.Core.Logic.{◌↔◌}
use mathlib.Core.Path.{◌≡◌, refl}
use lib.Dec.{eqb}
use borrow.Author.Tests.{eq-eqb, ne_eqb, not-true}
use Rattle.std.specs.Prelude.{None}
use Rattle.ground.specs.Judged.{first_bad}
use Rattle.ground.proofs.Each.{by_bool, number_some, none_number}
use Rattle.layout.specs.declared.Tables.{Tables}
use Rattle.image.specs.declared.Edge.{Edge}
use Rattle.image.specs.declared.FlowAxis.{FlowAxis}
use Rattle.image.specs.declared.FlowAxis.TheVariants.{Y, X}
use Rattle.image.specs.declared.Path.{Path}
use Rattle.image.specs.declared.Path.TheVariants.{Direct, Corner, SideChannel, MultiSegment, Orthogonal, Spline}
use Rattle.image.specs.Records.{edge_at}
use Rattle.rows.proofs.Windows.{clash}
use Rattle.flow.specs.declared.Leg.{Leg}
use Rattle.y_flow.specs.YFlow.{corner_row}
use Rattle.x_flow.specs.XFlow.{corner_column}
use Rattle.image.specs.Spans.{point_count}
use Rattle.path.specs.Pieces.{leg_at}
use Rattle.path.specs.Corners.{is_below, leg_below, multi_below, below_of}
use Rattle.elements.proofs.Records.{records_good_iff}
use Rattle.things.specs.Things.{edge_points}
use Rattle.corners.specs.Corners.{edge_below, corners_judged, LegAbove, CornersAbove}

-- a corner where two coordinates differ
bent_iff : (a b : ℕ) (at : Option ℕ) → (not (eqb a b) && is_below at ≡ false) ↔ ((a ≡ b → ⊥) → at ≡ None → ⊥)
unfolding is_below
bent_iff a b (Some n) = (λ h p q. let z : ◌≡◌ {A = ℕ} 0 1 = cc in omega arith, λ h. and-false (not (eqb a b)))
bent_iff a b None = (
  λ h p q. clash (rw (ne_eqb a b p)) h,
  λ h. by_bool (eqb a b) (λ t. rw t) (λ t. absurd (h (λ e. clash (eq-eqb a b e) t) refl)),
)

leg_iff : (axis : FlowAxis) (e : Edge) (offset : ℕ) (leg : Leg) → e.flow_axis ≡ axis → (leg_below axis e offset leg ≡ false) ↔ LegAbove e offset leg
unfolding leg_below
leg_iff Y e offset leg a =
    let bent = bent_iff leg.x1 leg.x2 (corner_row e offset leg) in (
      (λ h. record { row = λ _. bent.0 h; column = λ x. let z : ◌≡◌ {A = ℕ} 0 1 = cc in absurd (omega arith) }),
      (λ l. bent.1 (l.row a)),
    )
leg_iff X e offset leg a =
    let bent = bent_iff leg.y1 leg.y2 (corner_column e offset leg) in (
      (λ h. record { row = λ y. let z : ◌≡◌ {A = ℕ} 0 1 = cc in absurd (omega arith); column = λ _. bent.0 h }),
      (λ l. bent.1 (l.column a)),
    )

multi_iff :
    (e : Edge) (offset : ℕ) (points : List ℕ) →
    (multi_below e offset points ≡ false) ↔ ((leg : ℕ) → leg ≤ point_count points → LegAbove e offset (leg_at e points leg))
unfolding multi_below
multi_iff e offset points =
    let below : ℕ → Bool = λ k. leg_below e.flow_axis e offset (leg_at e points k) in (
      (λ h k p. (leg_iff e.flow_axis e offset (leg_at e points k) refl).0
          (by_bool (below k) (λ t. clash (number_some below 0 (point_count points + 1) k (omega arith) (omega arith) t) h) (λ t. t))),
      (λ g. none_number below 0 (point_count points + 1)
          (λ k p q. (leg_iff e.flow_axis e offset (leg_at e points k) refl).1 (g k (omega arith)))),
    )

path_above : (path : Path) (e : Edge) (points : List ℕ) → e.path ≡ path → below_of path e points ≡ false → CornersAbove e points
unfolding below_of
path_above Direct e points a h span offset leg p q = let z : ◌≡◌ {A = ℕ} 0 1 = cc in absurd (omega arith)
path_above (Corner bend) e points a h span offset leg p q = let z : ◌≡◌ {A = ℕ} 0 1 = cc in absurd (omega arith)
path_above (SideChannel c s t) e points a h span offset leg p q = let z : ◌≡◌ {A = ℕ} 0 1 = cc in absurd (omega arith)
path_above (MultiSegment own o) e points a h span offset leg p q =
    let same : offset ≡ o = cc in
    rw same ((multi_iff e o points).0 h leg q)
path_above (Orthogonal own) e points a h span offset leg p q = let z : ◌≡◌ {A = ℕ} 0 1 = cc in absurd (omega arith)
path_above Spline e points a h span offset leg p q = let z : ◌≡◌ {A = ℕ} 0 1 = cc in absurd (omega arith)

above_path : (path : Path) (e : Edge) (points : List ℕ) → e.path ≡ path → CornersAbove e points → below_of path e points ≡ false
unfolding below_of
above_path Direct e points a g = refl
above_path (Corner bend) e points a g = refl
above_path (SideChannel c s t) e points a g = refl
above_path (MultiSegment own o) e points a g = (multi_iff e o points).1 (λ leg q. g own o leg a q)
above_path (Orthogonal own) e points a g = refl
above_path Spline e points a g = refl

pub corners_iff :
    (image : List ℕ) (ts : Tables) →
    (first_bad (corners_judged image ts) ≡ None)
    ↔ ((k : ℕ) → k < ts.edges.count → CornersAbove (edge_at image ts.edges k) (edge_points image ts k))
unfolding corners_judged
corners_iff image ts =
    let each = records_good_iff ts.edges (λ k. not (edge_below image ts k)) in (
      (λ h k p. path_above _ (edge_at image ts.edges k) (edge_points image ts k) refl (not-true (edge_below image ts k) (each.0 h k p))),
      (λ g. each.1 (λ k p. rw (above_path _ (edge_at image ts.edges k) (edge_points image ts k) refl (g k p)))),
    )
