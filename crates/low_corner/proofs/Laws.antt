-- Laws over plain values, which the functions' proofs cite: a leg of a path, and the search for the first leg with a corner below 0.
use Rattle.std.specs.Prelude.{Option, Some, None}
use native.Mathlib.Omega.{arith}
use Prim.Native.Nat.{ℕ, ◌+◌, ◌≤◌, ◌<◌}
use mathlib.Core.Bool.{Bool, true, false}
use mathlib.Core.List.{List}
use mathlib.Core.Path.{◌≡◌, refl, sym, ◌∙◌, ap}
use lib.Dec.{eqb}
use Rattle.image.specs.declared.Edge.{Edge}
use Rattle.image.specs.declared.FlowAxis.{FlowAxis}
use Rattle.image.specs.declared.Path.{Path}
use Rattle.image.specs.declared.Path.TheVariants.{Direct, Corner, SideChannel, MultiSegment, Orthogonal, Spline}
use Rattle.image.specs.declared.Point.{Point}
use Rattle.image.specs.declared.Span.{Span}
use Rattle.image.specs.Spans.{point_count}
use Rattle.flow.specs.declared.Leg.{Leg}
use Rattle.orthogonal.specs.Points.{path_point}
use Rattle.path.specs.Pieces.{leg_between, leg_at}
use Rattle.path.specs.Corners.{leg_below}
use Rattle.finding.proofs.Search.{found_to, search_whole, search_hit, search_on, search_done}
use Rattle.low_corner.specs.declared.LowCorner.{LowCorner}
use Rattle.low_corner.specs.Low.{leg_low, low_leg, corner_at, corner_of, low_of}

-- the leg between two points of the path that follow one another
pub leg_put :
    (e : Edge) (points : List ℕ) (k count : ℕ) (a b : Point) (leg : Leg) →
    a ≡ path_point e points k →
    b ≡ path_point e points (k + 1) →
    count ≡ point_count points →
    leg ≡ leg_between a b (eqb k 0) (eqb k count) →
    leg ≡ leg_at e points k
unfolding leg_at
leg_put e points k count a b leg p q n l = rw (l, p, q, n)

-- The search for the first leg with a corner below 0, turn by turn.

module _ (e : Edge) (offset : ℕ) (points : List ℕ) where
  abbrev pub Looked : ℕ → Type 0
  Looked k = found_to (leg_low e offset points) (point_count points + 1) k ≡ low_leg e offset points

  pub look_whole : Looked 0
  unfolding low_leg
  look_whole = search_whole (leg_low e offset points) (point_count points + 1)

  module _ (k count : ℕ) (left : Looked k) (n : count ≡ point_count points) where
    module _ (is_low_lem : Bool) (leg : Leg) (h : k ≤ count) (l : leg ≡ leg_at e points k)
        (t : is_low_lem ≡ leg_below e.flow_axis e offset leg) where
      here : is_low_lem ≡ leg_low e offset points k
      here = t ∙ ap (leg_below e.flow_axis e offset) l

      pub look_hit :
          (axis : FlowAxis) (r : LowCorner) → axis ≡ e.flow_axis → is_low_lem ≡ true → r ≡ corner_at axis offset k leg →
          Some r ≡ corner_of e offset points (low_leg e offset points)
      unfolding corner_of
      look_hit axis r a z q =
          rw (q, a, l, ← search_hit (leg_low e offset points) (point_count points + 1) _ k left (omega arith) (sym here ∙ z))

      pub look_on : is_low_lem ≡ false → Looked (k + 1)
      look_on z = search_on (leg_low e offset points) (point_count points + 1) _ k left (omega arith) (sym here ∙ z)

    pub look_done : count < k → None ≡ corner_of e offset points (low_leg e offset points)
    unfolding corner_of
    look_done h = rw (← search_done (leg_low e offset points) (point_count points + 1) _ k left (omega arith))

-- An edge with another path, and a MultiSegment.
module _ (path : Path) (e : Edge) (points : List ℕ) where
  pub low_none : ((span : Span) (offset : ℕ) → path ≡ MultiSegment span offset → ⊥) → None ≡ low_of path e points
  unfolding low_of
  low_none k = by_path path k
    where
      by_path : (q : Path) → ((span : Span) (offset : ℕ) → q ≡ MultiSegment span offset → ⊥) → None ≡ low_of q e points
      by_path Direct k = refl
      by_path (Corner bend) k = refl
      by_path (SideChannel channel start end) k = refl
      by_path (MultiSegment span offset) k = absurd (k span offset refl)
      by_path (Orthogonal span) k = refl
      by_path Spline k = refl

  pub low_multi :
      (span : Span) (offset : ℕ) (r : Option LowCorner) →
      path ≡ MultiSegment span offset →
      r ≡ corner_of e offset points (low_leg e offset points) →
      r ≡ low_of path e points
  unfolding low_of
  low_multi span offset r p s = rw p s
