-- How many runs an edge has at most, so that no sum of runs wraps: a piece is at most one run, and the pieces are few for each point of the path.
use Rattle.std.specs.Prelude.{Option, Some, None}
use native.Mathlib.Omega.{arith}
use Prim.Native.Nat.{ℕ, zero, suc, ◌+◌, ◌-◌, ◌*◌, ◌≤◌, ◌<◌}
use mathlib.Core.List.{List, [], ◌∷◌, map}
use mathlib.Core.Path.{◌≡◌, refl}
use lib.Dec.{eqb, leb}
use lib.ListN.{length, length-append}
use borrow.Author.Tests.{leb-true}
use Rattle.ground.specs.Each.{numbers, each}
use Rattle.ground.proofs.Each.{by_bool, cond_holds}
use Rattle.ground.proofs.Order.{cond_bound}
use Rattle.layout.specs.declared.Table.{Table}
use Rattle.layout.specs.Small.{Small}
use Rattle.layout.proofs.Laws.{product_small}
use Rattle.image.specs.declared.Edge.{Edge}
use Rattle.image.specs.declared.FlowAxis.{FlowAxis}
use Rattle.image.specs.declared.FlowAxis.TheVariants.{Y, X}
use Rattle.image.specs.declared.Path.{Path}
use Rattle.image.specs.declared.Path.TheVariants.{Direct, Corner, SideChannel, MultiSegment, Orthogonal, Spline}
use Rattle.image.specs.declared.Point.{Point}
use Rattle.image.specs.declared.Span.{Span}
use Rattle.image.specs.Spans.{span_words, path_span, points_of, point_count}
use Rattle.image.proofs.Theorems.{span_length}
use Rattle.rows.specs.declared.Window.{Window}
use Rattle.rows.specs.Window.{in_window}
use Rattle.flow.specs.declared.Leg.{Leg}
use Rattle.flow.specs.declared.Piece.{Piece}
use Rattle.flow.specs.declared.Piece.TheVariants.{Nothing, Vertical, Horizontal, Run, Stroke, Mark}
use Rattle.flow.specs.Pieces.{piece_runs_in, runs_in}
use Rattle.y_flow.specs.YFlow.{bent_y, corner_y, side_y, straight_y, corner_row, crossing_y, leg_y}
use Rattle.x_flow.specs.XFlow.{bent_x, corner_x, side_x, straight_x, corner_column, crossing_x, leg_x}
use Rattle.orthogonal.specs.Points.{source, path_point, same_point, stops_after, stops}
use Rattle.orthogonal.specs.Orthogonal.{leg_pieces, pieces_along}
use Rattle.path.specs.Pieces.{direct_on, corner_on, side_on, leg_on, multi_pieces, pieces_of}
use Rattle.path.specs.Touched.{edge_runs}

-- a piece is at most one run, so that there are no more runs than pieces

one_run : (window : Window) (p : Piece) → piece_runs_in window p ≤ 1
unfolding piece_runs_in
one_run window Nothing = omega arith
one_run window (Vertical l) = omega arith
one_run window (Horizontal l) = omega arith
one_run window (Run row first last) = cond_bound (in_window window row) 1 0 1 (omega arith) (omega arith)
one_run window (Stroke x y arms) = omega arith
one_run window (Mark x y dir) = omega arith

runs_few : (window : Window) (pieces : List Piece) → runs_in window pieces ≤ length pieces
unfolding runs_in
runs_few window [] = omega arith
runs_few window (p ∷ rest) = omega (arith, one_run window p, runs_few window rest)

-- what each of n numbers makes, where each makes at most nine
each_few : (f : ℕ → List Piece) → ((k : ℕ) → length (f k) ≤ 9) → (k n : ℕ) → length (each (numbers k n) f) ≤ 9 * n
unfolding each numbers
each_few f few k zero = omega arith
each_few f few k (suc n) = omega (arith, few k, each_few f few (suc k) n, length-append (f k) (each (numbers (suc k) n) f))

abbrev Few : List Piece → Type 0
Few pieces = length pieces ≤ 9

-- a leg on each axis

crossed_y : (e : Edge) (offset : ℕ) (leg : Leg) (at : Option ℕ) → length (crossing_y e offset leg at) ≤ 9
unfolding crossing_y bent_y
crossed_y e offset leg None = omega arith
crossed_y e offset leg (Some row) = omega arith

crossed_x : (e : Edge) (offset : ℕ) (leg : Leg) (at : Option ℕ) → length (crossing_x e offset leg at) ≤ 9
unfolding crossing_x bent_x
crossed_x e offset leg None = omega arith
crossed_x e offset leg (Some column) = omega arith

straight_y_lem : (e : Edge) (leg : Leg) → length (straight_y e leg) ≤ 9
unfolding straight_y
straight_y_lem e leg = omega arith

straight_x_lem : (e : Edge) (leg : Leg) → length (straight_x e leg) ≤ 9
unfolding straight_x
straight_x_lem e leg = omega arith

leg_few : (axis : FlowAxis) (e : Edge) (offset : ℕ) (leg : Leg) → length (leg_on axis e offset leg) ≤ 9
unfolding leg_on leg_y leg_x
leg_few Y e offset leg = cond_holds Few (eqb leg.x1 leg.x2) (straight_y_lem e leg) (crossed_y e offset leg (corner_row e offset leg))
leg_few X e offset leg = cond_holds Few (eqb leg.y1 leg.y2) (straight_x_lem e leg) (crossed_x e offset leg (corner_column e offset leg))

-- a Direct, a Corner and a SideChannel

direct_few : (axis : FlowAxis) (e : Edge) → length (direct_on axis e) ≤ 9
unfolding direct_on
direct_few Y e = omega arith
direct_few X e = omega arith

corner_few : (axis : FlowAxis) (e : Edge) (bend : ℕ) → length (corner_on axis e bend) ≤ 9
unfolding corner_on corner_y corner_x bent_y bent_x
corner_few Y e bend = omega arith
corner_few X e bend = omega arith

side_few : (axis : FlowAxis) (e : Edge) (channel start end : ℕ) → length (side_on axis e channel start end) ≤ 9
unfolding side_on side_y side_x
side_few Y e channel start end = omega arith
side_few X e channel start end = omega arith

-- the stops of an Orthogonal path are no more than its points

mapped : (f : ℕ → Point) (k n : ℕ) → length (map f (numbers k n)) ≡ n
unfolding numbers
mapped f k zero = refl
mapped f k (suc n) = rw (mapped f (suc k) n)

skipped : (a : Point) (points : List Point) → length (stops_after a points) ≤ length points
unfolding stops_after
skipped a [] = omega arith
skipped a (p ∷ rest) =
    by_bool (same_point a p)
    (λ t. rw t (omega (arith, skipped a rest)))
    (λ t. rw t (omega (arith, skipped p rest)))

stops_few : (e : Edge) (points : List ℕ) → length (stops e points) ≤ point_count points + 2
unfolding stops
stops_few e points =
    let rest = map (path_point e points) (numbers 1 (point_count points + 1)) in
    omega (arith, skipped (source e) rest, mapped (path_point e points) 1 (point_count points + 1))

along_few : (e : Edge) (path : List Point) → length (pieces_along e path) ≤ 9 * (length path - 1)
unfolding pieces_along leg_pieces
along_few e path = each_few _ (λ k. omega arith) 0 (length path - 1)

-- the pieces of any path
pieces_few : (path : Path) (e : Edge) (points : List ℕ) → length (pieces_of path e points) ≤ 9 * (point_count points + 1)
unfolding pieces_of multi_pieces
pieces_few Direct e points = omega (arith, direct_few e.flow_axis e)
pieces_few (Corner bend) e points = omega (arith, corner_few e.flow_axis e bend)
pieces_few (SideChannel channel start end) e points = omega (arith, side_few e.flow_axis e channel start end)
pieces_few (MultiSegment span offset) e points = each_few _ (λ k. leg_few e.flow_axis e offset _) 0 (point_count points + 1)
pieces_few (Orthogonal span) e points = omega (arith, along_few e (stops e points), stops_few e points)
pieces_few Spline e points = omega (arith, direct_few e.flow_axis e)

-- the words of a span are few
span_few : (image : List ℕ) (t : Table) (span : Span) → Small t → length (span_words image t span) < 0x1000000000
unfolding span_words
span_few image t span small =
    by_bool (leb (span.start + span.count) t.count)
    (λ h.
    let n = leb-true (span.start + span.count) t.count h in
    let m = small.count in
    omega (arith, span_length image t span, product_small span.count t.size (omega arith) small.size))
    (λ h. rw h (omega arith))

-- An edge has at most so many runs.
pub edge_few :
    (window : Window) (e : Edge) (image : List ℕ) (t : Table) → Small t → edge_runs window e (points_of image t e.path) ≤ 0x10000000000
unfolding edge_runs
edge_few window e image t small =
    let points = points_of image t e.path in
    omega (
      arith,
      runs_few window (pieces_of e.path e points),
      pieces_few e.path e points,
      span_few image t (path_span e.path) small,
    )
