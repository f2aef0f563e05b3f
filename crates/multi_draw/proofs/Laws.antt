-- Drawing a MultiSegment: a leg along the axis, a leg that lies far from the window, and leg by leg.
use native.Mathlib.Omega.{arith}
use Prim.Native.Nat.{ℕ, ◌+◌, ◌≤◌, ◌<◌}
use mathlib.Core.Bool.{Bool, true, false}
use mathlib.Core.List.{List}
use mathlib.Core.Path.{◌≡◌, refl, sym, ◌∙◌}
use lib.Dec.{eqb}
use Rattle.image.specs.declared.Edge.{Edge}
use Rattle.image.specs.declared.FlowAxis.{FlowAxis}
use Rattle.image.specs.declared.FlowAxis.TheVariants as axes
use Rattle.image.specs.declared.Point.{Point}
use Rattle.image.specs.Spans.{point_count, point_at}
use Rattle.flow.specs.declared.Leg.{Leg}
use Rattle.flow.specs.declared.Piece.{Piece}
use Rattle.orthogonal.specs.Points.{source, target, path_point}
use Rattle.orthogonal.proofs.Laws.{path_source, between_point}
use Rattle.path.specs.Pieces.{leg_on, leg_between, leg_at, multi_pieces}
use Rattle.path.proofs.Multi.{leg_before, leg_last}
use Rattle.draw.specs.declared.Pen.{Pen}
use Rattle.window.specs.Writes.{Canvas}
use Rattle.runs.specs.Kept.{run_room}
use Rattle.y_flow.specs.YFlow.{leg_y}
use Rattle.x_flow.specs.XFlow.{leg_x}
use Rattle.draw.specs.Drawn.{edge_of, Inked, Drawing, drawing, Drawn, Drawable, NoRow}
use Rattle.draw.proofs.Laws.{only_inked, untouched_pieces}
use Rattle.draw.proofs.Legs.{DrawnTo, draw_begins, draw_turns, draw_ends}

-- Along the axis.

module _ (pen : Pen) (ranges : List ℕ) (e : Edge) (axis : FlowAxis) (offset : ℕ) (leg : Leg) where
  pub leg_down : (a b : Drawing) → axis ≡ axes.Y → Drawn pen ranges (leg_y e offset leg) a b → Drawn pen ranges (leg_on axis e offset leg) a b
  unfolding leg_on
  leg_down a b h d = rw h d

  pub leg_across :
      (a b : Canvas) (scratch : List ℕ) (kept : ℕ) → axis ≡ axes.X → kept ≤ run_room scratch →
      Inked pen ranges (leg_x e offset leg) a b →
      Drawn pen ranges (leg_on axis e offset leg) (record { canvas = a; scratch = scratch; kept = kept }) (record { canvas = b; scratch = scratch; kept = kept })
  unfolding leg_on
  leg_across a b scratch kept h room i = rw h (only_inked pen ranges (leg_x e offset leg) a b scratch kept i room)

-- A leg that lies far from the window is drawn already.
pub leg_skipped :
    (pen : Pen) (ranges : List ℕ) (e : Edge) (offset : ℕ) (leg : Leg) (a : Drawing) (near : Bool) →
    (near ≡ false → (one other : Edge) → NoRow pen.window other (leg_on one.flow_axis one offset leg)) →
    near ≡ false →
    a.kept ≤ run_room a.scratch →
    Drawn pen ranges (leg_on e.flow_axis e offset leg) a a
leg_skipped pen ranges e offset leg a near far f room = untouched_pieces pen ranges (leg_on e.flow_axis e offset leg) a (far f e (edge_of pen)) room

-- The legs of a MultiSegment.

module _ (pen : Pen) (ranges : List ℕ) (e : Edge) (offset : ℕ) (points : List ℕ) (start : Drawing) where
  abbrev pieces_at : ℕ → List Piece
  pieces_at k = leg_on e.flow_axis e offset (leg_at e points k)

  -- Before leg k, at point k of the path: the legs before it are drawn.
  pub record MultiDrawn (a : Point) (k : ℕ) (cells colours stamps scratch : List ℕ) (kept : ℕ) : Type 0 where
    pub within : k ≤ point_count points
    pub here : a ≡ path_point e points k
    pub drawn : DrawnTo pen ranges pieces_at (point_count points + 1) start k cells colours stamps scratch kept

  module _ (cells colours stamps scratch : List ℕ) (kept : ℕ) where
    pub multi_begins :
        (a : Point) →
        a ≡ source e →
        drawing pen cells colours stamps scratch kept ≡ start →
        Drawable pen cells colours stamps scratch kept →
        MultiDrawn a 0 cells colours stamps scratch kept
    multi_begins a p s able = record {
      within = omega arith;
      here = p ∙ path_source e points 0 refl;
      drawn = draw_begins pen ranges pieces_at (point_count points + 1) start cells colours stamps scratch kept s able;
    }

    module _ (a b : Point) (k : ℕ) (leg : Leg) (cells' colours' stamps' scratch' : List ℕ) (kept' : ℕ) (m : MultiDrawn a k cells colours stamps scratch kept) (d : Drawn pen ranges (leg_on e.flow_axis e offset leg) (drawing pen cells colours stamps scratch kept) (drawing pen cells' colours' stamps' scratch' kept')) where
      -- leg k more
      one_leg : leg ≡ leg_at e points k → DrawnTo pen ranges pieces_at (point_count points + 1) start (k + 1) cells' colours' stamps' scratch' kept'
      one_leg q =
          let w = m.within in
          draw_turns pen ranges pieces_at (point_count points + 1) start cells colours stamps scratch kept k m.drawn cells' colours' stamps' scratch' kept'
          (leg_on e.flow_axis e offset leg) (omega arith) (rw q) d

      pub multi_turns :
          leg ≡ leg_between a b (eqb k 0) false →
          b ≡ point_at points k →
          k < point_count points →
          MultiDrawn b (k + 1) cells' colours' stamps' scratch' kept'
      multi_turns q p h = record {
        within = omega arith;
        here = p ∙ sym (between_point e points k h);
        drawn = one_leg (q ∙ rw p (leg_before e points a k m.here h));
      }

      pub multi_ends :
          leg ≡ leg_between a b (eqb k 0) true →
          b ≡ target e →
          point_count points ≤ k →
          Drawn pen ranges (multi_pieces e offset points) start (drawing pen cells' colours' stamps' scratch' kept')
      unfolding multi_pieces
      multi_ends q p h =
          let w = m.within in
          let z : k ≡ point_count points = omega arith in
          draw_ends pen ranges pieces_at (point_count points + 1) start cells' colours' stamps' scratch' kept' (k + 1)
          (one_leg (q ∙ rw p (leg_last e points a k m.here z))) (omega arith)
