-- What an edge reaches, by the flow's axis and by its path; whether a leg has a corner below 0, by the axis.
use Rattle.std.specs.Prelude.{Option, Some, None, is_some}
use mathlib.Core.Path.{◌≡◌, refl, sym, ◌∙◌, ap}
use Prim.Native.Nat.{ℕ}
use mathlib.Core.Bool.{Bool, true, false, not}
use mathlib.Core.List.{List, [], ◌∷◌}
use borrow.Author.Tests.{ne_eqb, eq-eqb}
use Rattle.image.specs.declared.Edge.{Edge}
use Rattle.image.specs.declared.Point.{Point}
use Rattle.image.specs.declared.Span.{Span}
use Rattle.image.specs.declared.Path.{Path}
use Rattle.image.specs.declared.Path.TheVariants.{Direct, Corner, SideChannel, MultiSegment, Orthogonal, Spline}
use Rattle.image.specs.declared.FlowAxis.{FlowAxis}
use Rattle.image.specs.declared.FlowAxis.TheVariants.{Y, X}
use Rattle.rows.specs.declared.Window.{Window}
use Rattle.flow.specs.declared.Leg.{Leg}
use Rattle.flow.specs.declared.Piece.{Piece}
use Rattle.flow.specs.declared.Reach.{Reach}
use Rattle.flow.specs.Reach.{no_reach, piece_reach, join_reach, reach_of}
use Rattle.flow.proofs.Reached.{no_reach_join, reach_one}
use Rattle.y_flow.specs.YFlow.{direct_y, corner_y, side_y, leg_y, corner_row}
use Rattle.x_flow.specs.XFlow.{direct_x, corner_x, side_x, leg_x, corner_column}
use Rattle.path.specs.Pieces.{direct_on, corner_on, side_on, leg_on, leg_between}
use Rattle.path.specs.Corners.{is_below, leg_below, multi_below, below_of}

-- the leg of these numbers
pub leg_of :
    (a b : Point) (first last : Bool) (x1 y1 x2 y2 : ℕ) →
    x1 ≡ a.x → y1 ≡ a.y → x2 ≡ b.x → y2 ≡ b.y →
    ◌≡◌ {A = Leg} (record { x1 = x1; y1 = y1; x2 = x2; y2 = y2; first = first; last = last }) (leg_between a b first last)
unfolding leg_between
leg_of a b first last x1 y1 x2 y2 p q r s = rw (p, q, r, s)

-- what is reached with some pieces, when nothing was before
from_none :
    (window : Window) (pieces : List Piece) (start r : Reach) →
    r ≡ join_reach start (reach_of window pieces) →
    start ≡ no_reach →
    r ≡ reach_of window pieces
from_none window pieces start r h s = h ∙ ap (λ (x : Reach). join_reach x (reach_of window pieces)) s ∙ no_reach_join _

module _ (window : Window) (axis : FlowAxis) (e : Edge) (start r : Reach) where
  -- a line

  direct_on_lem :
      (p : Piece) →
      r ≡ join_reach start (piece_reach window p) →
      start ≡ no_reach →
      r ≡ reach_of window (p ∷ [])
  direct_on_lem p h s = from_none window (p ∷ []) start r (h ∙ ap (join_reach start) (sym (reach_one window p))) s

  pub direct_on_y : r ≡ join_reach start (piece_reach window (direct_y e)) → start ≡ no_reach → axis ≡ Y → r ≡ reach_of window (direct_on axis e)
  unfolding direct_on
  direct_on_y h s a = rw a (direct_on_lem (direct_y e) h s)

  pub direct_on_x : r ≡ join_reach start (piece_reach window (direct_x e)) → start ≡ no_reach → axis ≡ X → r ≡ reach_of window (direct_on axis e)
  unfolding direct_on
  direct_on_x h s a = rw a (direct_on_lem (direct_x e) h s)

  -- a corner

  module _ (bend : ℕ) where
    pub corner_on_y : r ≡ join_reach start (reach_of window (corner_y e bend)) → start ≡ no_reach → axis ≡ Y → r ≡ reach_of window (corner_on axis e bend)
    unfolding corner_on
    corner_on_y h s a = rw a (from_none window _ start r h s)

    pub corner_on_x : r ≡ join_reach start (reach_of window (corner_x e bend)) → start ≡ no_reach → axis ≡ X → r ≡ reach_of window (corner_on axis e bend)
    unfolding corner_on
    corner_on_x h s a = rw a (from_none window _ start r h s)

  -- a side channel

  module _ (channel first last : ℕ) where
    pub side_on_y :
        r ≡ join_reach start (reach_of window (side_y e channel first last)) →
        start ≡ no_reach →
        axis ≡ Y →
        r ≡ reach_of window (side_on axis e channel first last)
    unfolding side_on
    side_on_y h s a = rw a (from_none window _ start r h s)

    pub side_on_x :
        r ≡ join_reach start (reach_of window (side_x e channel first last)) →
        start ≡ no_reach →
        axis ≡ X →
        r ≡ reach_of window (side_on axis e channel first last)
    unfolding side_on
    side_on_x h s a = rw a (from_none window _ start r h s)

  -- a leg

  module _ (offset : ℕ) (leg : Leg) where
    pub leg_on_y :
        r ≡ join_reach start (reach_of window (leg_y e offset leg)) →
        axis ≡ Y →
        r ≡ join_reach start (reach_of window (leg_on axis e offset leg))
    unfolding leg_on
    leg_on_y h a = rw a h

    pub leg_on_x :
        r ≡ join_reach start (reach_of window (leg_x e offset leg)) →
        axis ≡ X →
        r ≡ join_reach start (reach_of window (leg_on axis e offset leg))
    unfolding leg_on
    leg_on_x h a = rw a h

-- where no coordinate is, the corner lies below 0
below_none : (corner : Option ℕ) (r : Bool) → is_some corner ≡ not r → r ≡ is_below corner
unfolding is_below
below_none None true h = refl
below_none None false h = h
below_none (Some n) true h = h
below_none (Some n) false h = refl

-- Whether a leg has a corner below 0: not where its ends do not differ across the flow, else by its corner.

module _ (axis : FlowAxis) (e : Edge) (offset : ℕ) (leg : Leg) where
  pub straight_y_lem : leg.x1 ≡ leg.x2 → axis ≡ Y → false ≡ leg_below axis e offset leg
  unfolding leg_below
  straight_y_lem h a = rw (a, eq-eqb _ _ h)

  pub straight_x_lem : leg.y1 ≡ leg.y2 → axis ≡ X → false ≡ leg_below axis e offset leg
  unfolding leg_below
  straight_x_lem h a = rw (a, eq-eqb _ _ h)

  module _ (corner : Option ℕ) (r : Bool) where
    pub bent_y_lem : corner ≡ corner_row e offset leg → is_some corner ≡ not r → (leg.x1 ≡ leg.x2 → ⊥) → axis ≡ Y → r ≡ leg_below axis e offset leg
    unfolding leg_below
    bent_y_lem c h n a = rw (a, ne_eqb _ _ n, ← c) (below_none corner r h)

    pub bent_x_lem : corner ≡ corner_column e offset leg → is_some corner ≡ not r → (leg.y1 ≡ leg.y2 → ⊥) → axis ≡ X → r ≡ leg_below axis e offset leg
    unfolding leg_below
    bent_x_lem c h n a = rw (a, ne_eqb _ _ n, ← c) (below_none corner r h)

-- Only a MultiSegment has corners that can lie below 0.

module _ (p : Path) (e : Edge) (points : List ℕ) where
  pub none_below : ((span : Span) (offset : ℕ) → p ≡ MultiSegment span offset → ⊥) → false ≡ below_of p e points
  unfolding below_of
  none_below k = by_path p k
    where
      by_path : (q : Path) → ((span : Span) (offset : ℕ) → q ≡ MultiSegment span offset → ⊥) → false ≡ below_of q e points
      by_path Direct k = refl
      by_path (Corner bend) k = refl
      by_path (SideChannel channel start end) k = refl
      by_path (MultiSegment span offset) k = absurd (k span offset refl)
      by_path (Orthogonal span) k = refl
      by_path Spline k = refl

  pub legs_below : (span : Span) (offset : ℕ) (r : Bool) → p ≡ MultiSegment span offset → r ≡ multi_below e offset points → r ≡ below_of p e points
  unfolding below_of
  legs_below span offset r h i = rw h i
