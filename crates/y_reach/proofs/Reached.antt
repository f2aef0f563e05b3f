-- What the pieces of a Y flow reach, by their numbers alone.
use Rattle.std.specs.Prelude.{Option, Some, None}
use native.Mathlib.Omega.{arith}
use Prim.Native.Nat.{ℕ, ◌+◌, min, max}
use mathlib.Core.Path.{◌≡◌, refl, sym, ◌∙◌}
use mathlib.Core.Bool.{Bool, true, false, not, ◌&&◌}
use mathlib.Core.List.{[], ◌∷◌}
use lib.Dec.{ltb, eqb}
use borrow.Author.Tests.{eq-eqb, ne_eqb, le-ltb}
use Rattle.ground.proofs.Order.{by_three}
use Rattle.ground.proofs.Each.{by_bool}
use Rattle.cell.specs.declared.Weight.{Weight}
use Rattle.image.specs.declared.Edge.{Edge}
use Rattle.rows.specs.declared.Rows.{Rows}
use Rattle.rows.specs.declared.Window.{Window}
use Rattle.rows.specs.Window.{join_rows}
use Rattle.rows.specs.Computed.{window_rows}
use Rattle.rows.proofs.Theorems.{join_assoc}
use Rattle.flow.specs.declared.Bend.{Bend}
use Rattle.flow.specs.declared.Leg.{Leg}
use Rattle.flow.specs.declared.Piece.{Piece}
use Rattle.flow.specs.declared.Reach.{Reach}
use Rattle.flow.specs.Flow.{line_of, corner_bend, leg_bend, target_marker}
use Rattle.flow.specs.Pieces.{piece_runs_in}
use Rattle.flow.specs.Reach.{row_if, has_inside, vertical_rows, piece_rows, piece_reach, join_reach, with_rows, reach_of}
use Rattle.flow.proofs.Reached.{join_same, join_no_reach, reach_onto, reach_onto_lem, with_vertical, with_piece_if, with_first_corner, with_last_corner}
use Rattle.flow.proofs.Reached.{with_rows_unless, leg_straight, leg_bent}
use Rattle.y_flow.specs.YFlow.{sign_y, direct_y, cross_run_y, cross_first_y, cross_last_y, corner_arrow_y, trunk_y, own_start_y, tail_y}
use Rattle.y_flow.specs.YFlow.{bent_y, corner_y, channel_line_y, side_y, straight_line_y, straight_y, corner_row, crossing_y, leg_y}
use Rattle.y_reach.specs.Reach.{trunk_rows, crossing_reach, bent_reach, channel_reach}

module _ (window : Window) where
  -- The pieces of a crossing are all on its row, and the run is inside it.

  module _ (row x1 x2 : ℕ) where
    run_rows : piece_rows window (cross_run_y row x1 x2) ≡ row_if window (has_inside x1 x2) row
    unfolding piece_rows cross_run_y
    run_rows = by_bool (has_inside x1 x2) (λ t. rw t) (λ t. rw t)

    inside : join_rows (row_if window (has_inside x1 x2) row) (row_if window (not (eqb x1 x2)) row) ≡ row_if window (not (eqb x1 x2)) row
    inside =
        by_three x1 x2
        (λ p. rw (ne_eqb x1 x2 (λ e. omega arith)) (either (has_inside x1 x2)))
        (λ p. rw (ne_eqb x1 x2 (λ e. omega arith)) (either (has_inside x1 x2)))
        (λ p. rw (eq-eqb x1 x2 p, le-ltb (min x1 x2 + 1) (max x1 x2) (omega arith)))
      where
        either : (test : Bool) → join_rows (row_if window test row) (window_rows window row row) ≡ window_rows window row row
        either true = join_same (window_rows window row row)
        either false = refl

    crossed_rows :
        (r : Option Rows) →
        join_rows (join_rows (join_rows r (row_if window (has_inside x1 x2) row)) (row_if window (not (eqb x1 x2)) row)) (row_if window (not (eqb x1 x2)) row)
        ≡ join_rows r (row_if window (not (eqb x1 x2)) row)
    crossed_rows r =
        let f = row_if window (not (eqb x1 x2)) row in
        rw (join_assoc r (row_if window (has_inside x1 x2) row) f, inside) (join_assoc r f f ∙ rw (join_same f))

    crossed :
        (reach : Reach) →
        with_rows
        (with_rows (join_reach reach (piece_reach window (cross_run_y row x1 x2))) (row_if window (not (eqb x1 x2)) row))
        (row_if window (not (eqb x1 x2)) row)
        ≡ join_reach reach (crossing_reach window row x1 x2)
    unfolding with_rows join_reach piece_reach crossing_reach
    crossed reach = rw (run_rows, crossed_rows reach.rows)

    module _ (w : Weight) (s : Bool) where
      first_reached :
          (arrow : Bool) (reach : Reach) →
          join_reach reach (piece_reach window (cross_first_y w s arrow row x1 x2)) ≡ with_rows reach (row_if window (not (eqb x1 x2)) row)
      unfolding cross_first_y
      first_reached arrow reach = with_first_corner window reach (eqb x1 x2) x1 row _ arrow _

      last_reached :
          (reach : Reach) →
          join_reach reach (piece_reach window (cross_last_y w s row x1 x2)) ≡ with_rows reach (row_if window (not (eqb x1 x2)) row)
      unfolding cross_last_y
      last_reached reach = with_last_corner window reach (eqb x1 x2) x2 row _

      crossing_reached :
          (arrow : Bool) (reach : Reach) →
          reach_onto window reach (cross_run_y row x1 x2 ∷ cross_first_y w s arrow row x1 x2 ∷ cross_last_y w s row x1 x2 ∷ [])
          ≡ join_reach reach (crossing_reach window row x1 x2)
      crossing_reached arrow reach = rw (first_reached arrow, last_reached) (crossed reach)

  -- A trunk, a stroke at the start, and a tail.

  trunk_reached :
      (s : Bool) (v : Bend) (reach : Reach) →
      join_reach reach (piece_reach window (trunk_y s v)) ≡ with_rows reach (trunk_rows window v.has_trunk v.y1 v.bend)
  unfolding trunk_y piece_rows piece_runs_in line_of
  trunk_reached s v reach = with_piece_if window reach v.has_trunk _ _ refl refl

  start_reached :
      (w : Weight) (strokes : Bool) (x y : ℕ) (reach : Reach) →
      join_reach reach (piece_reach window (own_start_y w strokes x y)) ≡ with_rows reach (row_if window strokes y)
  unfolding own_start_y piece_rows piece_runs_in
  start_reached w strokes x y reach = with_piece_if window reach strokes _ _ refl refl

  tail_reached :
      (s arrow : Bool) (x from to : ℕ) (reach : Reach) →
      join_reach reach (piece_reach window (tail_y s arrow x from to)) ≡ with_rows reach (vertical_rows window from to)
  unfolding tail_y line_of
  tail_reached s arrow x from to reach = with_vertical window reach _

  -- A way that bends once reaches what its numbers say.
  bent_reached :
      (w : Weight) (s : Bool) (v : Bend) (reach : Reach) →
      join_reach reach (reach_of window (bent_y w s v))
      ≡ bent_reach reach window v.has_trunk v.strokes_start v.bend v.x1 v.y1 v.x2 v.y2
  unfolding bent_reach bent_y
  bent_reached w s v reach =
      sym (reach_onto_lem window reach (bent_y w s v))
      ∙ rw (
        trunk_reached s v reach,
        start_reached w v.strokes_start v.x1 v.y1,
        crossing_reached v.bend v.x1 v.x2 w s (corner_arrow_y s v),
        tail_reached s v.end_arrow v.x2 v.bend v.y2,
      )

  -- So does a line in a channel, and the line of a straight leg.

  channel_reached :
      (channel start end : ℕ) (reach : Reach) →
      join_reach reach (piece_reach window (channel_line_y channel start end)) ≡ with_rows reach (vertical_rows window start end)
  unfolding channel_line_y line_of
  channel_reached channel start end reach = with_vertical window reach _

  line_reached :
      (e : Edge) (leg : Leg) (reach : Reach) →
      join_reach reach (piece_reach window (straight_line_y e leg)) ≡ with_rows reach (vertical_rows window leg.y1 leg.y2)
  unfolding straight_line_y line_of
  line_reached e leg reach = with_vertical window reach _

  -- What the code finds, from what it calls: with a crossing, a way that bends once, and a channel between two crossings.

  module _ (reach : Reach) where
    pub crossing_joined :
        (row x1 x2 runs : ℕ) (crossed : Reach) (run : Piece) →
        crossed ≡ with_rows reach (row_if window (not (eqb x1 x2)) row) →
        runs ≡ piece_runs_in window run →
        run ≡ cross_run_y row x1 x2 →
        record { rows = crossed.rows; runs = reach.runs + runs } ≡ join_reach reach (crossing_reach window row x1 x2)
    unfolding with_rows join_reach crossing_reach
    crossing_joined row x1 x2 runs crossed run p q u = rw (p, q, u)

    pub bent_joined :
        (has_trunk strokes : Bool) (bend x1 y1 x2 y2 : ℕ) (trunk start crossed r : Reach) →
        r ≡ with_rows crossed (vertical_rows window bend y2) →
        crossed ≡ join_reach start (crossing_reach window bend x1 x2) →
        start ≡ with_rows trunk (row_if window strokes y1) →
        trunk ≡ with_rows reach (trunk_rows window has_trunk y1 bend) →
        r ≡ bent_reach reach window has_trunk strokes bend x1 y1 x2 y2
    unfolding bent_reach
    bent_joined has_trunk strokes bend x1 y1 x2 y2 trunk start crossed r p q u t = rw (← t, ← u, ← q) p

    pub channel_joined :
        (channel first last x1 x2 y2 : ℕ) (out side back r : Reach) →
        r ≡ with_rows back (vertical_rows window last y2) →
        back ≡ join_reach side (crossing_reach window last channel x2) →
        side ≡ with_rows out (vertical_rows window first last) →
        out ≡ join_reach reach (crossing_reach window first x1 channel) →
        r ≡ channel_reach reach window channel first last x1 x2 y2
    unfolding channel_reach
    channel_joined channel first last x1 x2 y2 out side back r p q u t = rw (← t, ← u, ← q) p

  -- And for an edge: a Direct one, one with a Corner, and one with a SideChannel.

  module _ (e : Edge) (reach r : Reach) where
    pub direct_reached :
        (from to : ℕ) →
        r ≡ with_rows reach (vertical_rows window from to) →
        from ≡ e.from_y →
        to ≡ e.to_y →
        r ≡ join_reach reach (piece_reach window (direct_y e))
    unfolding direct_y line_of
    direct_reached from to p f t = p ∙ rw (f, t) (sym (with_vertical window reach _))

    pub corner_reached :
        (place bend x1 y1 x2 y2 : ℕ) (trunk crossed : Reach) →
        r ≡ with_rows crossed (vertical_rows window bend y2) →
        crossed ≡ join_reach trunk (crossing_reach window bend x1 x2) →
        trunk ≡ with_rows reach (vertical_rows window y1 bend) →
        bend ≡ place →
        x1 ≡ e.from_x →
        y1 ≡ e.from_y →
        x2 ≡ e.to_x →
        y2 ≡ e.to_y →
        r ≡ join_reach reach (reach_of window (corner_y e place))
    unfolding corner_y corner_bend
    corner_reached place bend x1 y1 x2 y2 trunk crossed p q t n a b c d =
        bent_joined reach true false bend x1 y1 x2 y2 trunk trunk crossed r p q (with_rows_unless trunk false (window_rows window y1 y1) refl) t
        ∙ rw (n, a, b, c, d) (sym (bent_reached e.weight (sign_y e) (corner_bend e place) reach))

    side_pieces :
        (channel start end : ℕ) →
        join_reach reach (reach_of window (side_y e channel start end))
        ≡ channel_reach reach window channel start end e.from_x e.to_x e.to_y
    unfolding channel_reach side_y
    side_pieces channel start end =
        sym (reach_onto_lem window reach (side_y e channel start end))
        ∙ rw (
          crossing_reached start e.from_x channel e.weight (sign_y e) false reach,
          channel_reached channel start end,
          crossing_reached end channel e.to_x e.weight (sign_y e) false,
          tail_reached (sign_y e) (target_marker e) e.to_x end e.to_y,
        )

    pub side_reached :
        (channel start end column first last x1 x2 y2 : ℕ) →
        r ≡ channel_reach reach window column first last x1 x2 y2 →
        column ≡ channel →
        first ≡ start →
        last ≡ end →
        x1 ≡ e.from_x →
        x2 ≡ e.to_x →
        y2 ≡ e.to_y →
        r ≡ join_reach reach (reach_of window (side_y e channel start end))
    side_reached channel start end column first last x1 x2 y2 p k f l a b c =
        p ∙ rw (k, f, l, a, b, c) (sym (side_pieces channel start end))

    -- A leg of a MultiSegment: straight, with a corner below 0, and bent.

    module _ (offset : ℕ) (leg : Leg) where
      pub straight_leg :
          (start : Reach) →
          r ≡ with_rows start (vertical_rows window leg.y1 leg.y2) →
          start ≡ with_rows reach (row_if window (not leg.first) leg.y1) →
          leg.x1 ≡ leg.x2 →
          r ≡ join_reach reach (reach_of window (leg_y e offset leg))
      unfolding leg_y straight_y
      straight_leg start p q h =
          leg_straight window reach r leg.x1 leg.x2 start _ _ _ _ _
          (start_reached e.weight (not leg.first) leg.x1 leg.y1)
          (line_reached e leg)
          p q h

      module _ (corner : Option ℕ) (is : corner ≡ corner_row e offset leg) (h : leg.x1 ≡ leg.x2 → ⊥) where
        pub below_leg : corner ≡ None → r ≡ reach → r ≡ join_reach reach (reach_of window (leg_y e offset leg))
        unfolding leg_y crossing_y reach_of
        below_leg b p = leg_bent window reach r leg.x1 leg.x2 _ _ h (rw (← is, b) (p ∙ sym (join_no_reach reach)))

        pub bent_leg :
            (bend : ℕ) (has_trunk : Bool) →
            corner ≡ Some bend →
            r ≡ bent_reach reach window has_trunk (not leg.first) bend leg.x1 leg.y1 leg.x2 leg.y2 →
            has_trunk ≡ leg.first && ltb 0 offset →
            r ≡ join_reach reach (reach_of window (leg_y e offset leg))
        unfolding leg_y crossing_y leg_bend
        bent_leg bend has_trunk a p t =
            leg_bent window reach r leg.x1 leg.x2 _ _ h
            (rw (← is, a) (p ∙ rw t (sym (bent_reached e.weight (sign_y e) (leg_bend e offset leg bend) reach))))
