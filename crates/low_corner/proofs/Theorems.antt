-- What is told of a corner is what code 6 refuses, and the corner lies below 0 by as much as it is told.
use Rattle.std.specs.Prelude.{Option, Some, None}
use native.Mathlib.Omega.{arith}
use Prim.Native.Nat.{ℕ, ◌+◌, ◌<◌}
use mathlib.Core.Bool.{Bool, true, false, not, ◌&&◌}
use mathlib.Core.List.{List}
use mathlib.Core.Path.{◌≡◌, refl, ◌∙◌}
use lib.Dec.{eqb}
use Rattle.std.specs.Prelude.{Option, Some, None}
use Rattle.ground.proofs.Order.{by_order}
use Rattle.image.specs.declared.Edge.{Edge}
use Rattle.image.specs.declared.FlowAxis.{FlowAxis}
use Rattle.image.specs.declared.FlowAxis.TheVariants.{Y, X}
use Rattle.image.specs.declared.Path.{Path}
use Rattle.image.specs.declared.Path.TheVariants.{Direct, Corner, SideChannel, MultiSegment, Orthogonal, Spline}
use Rattle.image.specs.Spans.{point_count}
use Rattle.flow.specs.declared.Leg.{Leg}
use Rattle.flow.specs.Flow.{along, corner_steps}
use Rattle.flow.proofs.Signed.{along_with, along_back}
use Rattle.y_flow.specs.YFlow.{sign_y, corner_row}
use Rattle.x_flow.specs.XFlow.{sign_x, corner_column}
use Rattle.path.specs.Corners.{is_below, leg_below, multi_below, below_of}
use Rattle.elements.proofs.Laws.{is_found, some_found}
use Rattle.low_corner.specs.declared.LowCorner.{LowCorner}
use Rattle.low_corner.specs.Low.{leg_low, low_leg, leg_start, corner_at, corner_of, low_of}

abbrev pub is_low : Option LowCorner → Bool
is_low None = false
is_low (Some corner) = true

corner_found : (e : Edge) (offset : ℕ) (points : List ℕ) (leg : Option ℕ) → is_found leg ≡ is_low (corner_of e offset points leg)
unfolding corner_of corner_at
corner_found e offset points None = refl
corner_found e offset points (Some k) = refl

-- Code 6 refuses an edge exactly when such a corner is found.
pub low_told : (path : Path) (e : Edge) (points : List ℕ) → below_of path e points ≡ is_low (low_of path e points)
unfolding below_of low_of multi_below low_leg
low_told Direct e points = refl
low_told (Corner bend) e points = refl
low_told (SideChannel channel start end) e points = refl
low_told (MultiSegment span offset) e points =
    some_found (leg_low e offset points) 0 (point_count points + 1) ∙ corner_found e offset points (low_leg e offset points)
low_told (Orthogonal span) e points = refl
low_told Spline e points = refl

-- A coordinate below 0 lies against the axis, by more steps than its start has cells before it.

never : {P : Type 0} → false ≡ true → P
never h = let z : ◌≡◌ {A = ℕ} 0 1 = cc in absurd (omega arith)

unbelow : (s : Bool) (from steps : ℕ) → is_below (along s from steps) ≡ true → (s ≡ false) × (from < steps)
unfolding is_below
unbelow true from steps h = never (rw (along_with from steps) at h)
unbelow false from steps h = by_order from steps (λ p. (refl, p)) (λ p. never (rw (along_back from steps p) at h))

both : (a b : Bool) → a && b ≡ true → b ≡ true
both true b h = h
both false b h = never h

-- whether an edge flows with the axis
abbrev pub sign_on : FlowAxis → Edge → Bool
sign_on Y e = sign_y e
sign_on X e = sign_x e

-- So the corner of a leg that is found lies on row, or column, start − steps, which is below 0.
pub low_lies :
    (axis : FlowAxis) (e : Edge) (offset : ℕ) (leg : Leg) → leg_below axis e offset leg ≡ true →
    (sign_on axis e ≡ false) × (leg_start axis leg < corner_steps offset leg)
unfolding leg_below leg_start corner_row corner_column
low_lies Y e offset leg h = unbelow (sign_y e) leg.y1 (corner_steps offset leg) (both (not (eqb leg.x1 leg.x2)) _ h)
low_lies X e offset leg h = unbelow (sign_x e) leg.x1 (corner_steps offset leg) (both (not (eqb leg.y1 leg.y2)) _ h)
