-- What the pieces of an X flow reach, by their numbers alone.
use Rattle.std.specs.Prelude.{Option, Some, None}
use native.Mathlib.Omega.{arith}
use Prim.Native.Nat.{ℕ, ◌+◌, ◌-◌, ◌<◌, min, max}
use mathlib.Core.Path.{◌≡◌, refl, sym, ◌∙◌}
use mathlib.Core.Bool.{Bool, true, false, not, ◌&&◌, ◌||◌}
use mathlib.Core.List.{[], ◌∷◌}
use lib.Dec.{leb, ltb, eqb}
use borrow.Author.Tests.{eq-eqb, ne_eqb, le-leb, lt-leb, eqb-true, eqb-false}
use Rattle.ground.proofs.Order.{by_order, by_three}
use Rattle.ground.proofs.Each.{by_bool}
use Rattle.cell.specs.declared.Weight.{Weight}
use Rattle.image.specs.declared.Edge.{Edge}
use Rattle.rows.specs.declared.Rows.{Rows}
use Rattle.rows.specs.declared.Window.{Window}
use Rattle.rows.specs.Window.{join_rows}
use Rattle.rows.specs.Computed.{window_rows}
use Rattle.rows.proofs.Theorems.{join_none}
use Rattle.rows.proofs.Windows.{touched_or, touched_same, window_row, window_rows_lem}
use Rattle.flow.specs.declared.Bend.{Bend}
use Rattle.flow.specs.declared.Leg.{Leg}
use Rattle.flow.specs.declared.Reach.{Reach}
use Rattle.flow.specs.Flow.{line_of, corner_bend, leg_bend, target_marker}
use Rattle.flow.specs.Pieces.{piece_runs_in}
use Rattle.flow.specs.Reach.{row_if, vertical_rows, horizontal_rows, piece_rows, piece_reach, join_reach, with_rows, reach_of}
use Rattle.flow.proofs.Reached.{vertical_short, join_no_reach, reach_onto, reach_onto_lem, with_vertical, with_horizontal, with_piece_if, with_first_corner}
use Rattle.flow.proofs.Reached.{with_last_corner, with_rows_three, leg_straight, leg_bent}
use Rattle.x_flow.specs.XFlow.{sign_x, direct_x, cross_line_x, cross_first_x, cross_last_x, corner_arrow_x, trunk_x, own_start_x, tail_x}
use Rattle.x_flow.specs.XFlow.{bent_x, corner_x, channel_line_x, side_x, straight_line_x, straight_x, corner_column, crossing_x, leg_x}
use Rattle.x_reach.specs.Reach.{trunk_rows, crossing_rows, bent_reach, channel_reach}

module _ (window : Window) where
  -- The rows of a crossing: those strictly between two rows, and the two, are all from the one to the other.

  module _ (y1 y2 : ℕ) where
    abbrev low : ℕ
    low = min y1 y2

    abbrev high : ℕ
    high = max y1 y2

    among :
        (y : ℕ) →
        (y1 ≡ y2 → ⊥) →
        (((leb (low + 1) y && leb y (high - 1)) || eqb y1 y) || eqb y2 y) ≡ (leb low y && leb y high)
    among y h =
        by_three y low
        (λ p. simp (lt-leb (low + 1) y (omega arith), lt-leb low y p, ne_eqb y1 y (λ e. omega arith), ne_eqb y2 y (λ e. omega arith)))
        (λ p. by_three y high
        (λ q. simp (le-leb (low + 1) y (omega arith), le-leb y (high - 1) (omega arith), le-leb low y (omega arith), le-leb y high (omega arith)))
        (λ q. simp (le-leb (low + 1) y (omega arith), lt-leb y (high - 1) (omega arith), le-leb low y (omega arith), lt-leb y high q, ne_eqb y1 y (λ e. omega arith), ne_eqb y2 y (λ e. omega arith)))
        (λ q. simp (le-leb (low + 1) y (omega arith), lt-leb y (high - 1) (omega arith), le-leb low y (omega arith), le-leb y high (omega arith)) (at_an_end p q)))
        (λ p. simp (lt-leb (low + 1) y (omega arith), le-leb low y (omega arith), le-leb y high (omega arith)) (at_start p))
      where
        at_start : y ≡ low → (eqb y1 y || eqb y2 y) ≡ true
        at_start p =
            by_order y1 y2
            (λ o. rw (eq-eqb y1 y (omega arith)))
            (λ o. rw (ne_eqb y1 y (λ e. h (omega arith)), eq-eqb y2 y (omega arith)))

        at_an_end : low < y → y ≡ high → (eqb y1 y || eqb y2 y) ≡ true
        at_an_end p q =
            by_order y1 y2
            (λ o. rw (ne_eqb y1 y (λ e. omega arith), eq-eqb y2 y (omega arith)))
            (λ o. rw (eq-eqb y1 y (omega arith)))

    whole :
        (y1 ≡ y2 → ⊥) →
        join_rows (join_rows (vertical_rows window y1 y2) (window_rows window y1 y1)) (window_rows window y2 y2) ≡ window_rows window low high
    unfolding vertical_rows
    whole h =
        rw (window_rows_lem window (low + 1) (high - 1), window_row window y1, window_row window y2, window_rows_lem window low high)
        (rw (
          ← touched_or window (λ y. leb (low + 1) y && leb y (high - 1)) (λ y. eqb y1 y),
          ← touched_or window (λ y. (leb (low + 1) y && leb y (high - 1)) || eqb y1 y) (λ y. eqb y2 y),
        )
        (touched_same window _ _ (λ y i j. among y h)))

    nothing_between : y1 ≡ y2 → vertical_rows window y1 y2 ≡ None
    nothing_between h = sym (vertical_short window y1 y2 (omega arith))

    crossed :
        join_rows (join_rows (vertical_rows window y1 y2) (row_if window (not (eqb y1 y2)) y1)) (row_if window (not (eqb y1 y2)) y2)
        ≡ crossing_rows window y1 y2
    unfolding crossing_rows
    crossed =
        by_bool (eqb y1 y2)
        (λ t. rw (t, nothing_between (eqb-true y1 y2 t)))
        (λ t. rw t (whole (eqb-false y1 y2 t)))

    module _ (w : Weight) (s : Bool) (column : ℕ) where
      between_reached : (reach : Reach) → join_reach reach (piece_reach window (cross_line_x column y1 y2)) ≡ with_rows reach (vertical_rows window y1 y2)
      unfolding cross_line_x line_of
      between_reached reach = with_vertical window reach _

      first_reached :
          (arrow : Bool) (reach : Reach) →
          join_reach reach (piece_reach window (cross_first_x w s arrow column y1 y2)) ≡ with_rows reach (row_if window (not (eqb y1 y2)) y1)
      unfolding cross_first_x
      first_reached arrow reach = with_first_corner window reach (eqb y1 y2) column y1 _ arrow _

      last_reached :
          (reach : Reach) →
          join_reach reach (piece_reach window (cross_last_x w s column y1 y2)) ≡ with_rows reach (row_if window (not (eqb y1 y2)) y2)
      unfolding cross_last_x
      last_reached reach = with_last_corner window reach (eqb y1 y2) column y2 _

      crossing_reached :
          (arrow : Bool) (reach : Reach) →
          reach_onto window reach (cross_line_x column y1 y2 ∷ cross_first_x w s arrow column y1 y2 ∷ cross_last_x w s column y1 y2 ∷ [])
          ≡ with_rows reach (crossing_rows window y1 y2)
      crossing_reached arrow reach =
          rw (between_reached reach, first_reached arrow, last_reached)
          (with_rows_three reach (vertical_rows window y1 y2) _ _ ∙ rw crossed)

  -- A trunk, a stroke at the start, and a tail.

  trunk_reached :
      (s : Bool) (v : Bend) (reach : Reach) →
      join_reach reach (piece_reach window (trunk_x s v)) ≡ with_rows reach (trunk_rows window v.has_trunk v.y1 v.x1 v.bend)
  unfolding trunk_x piece_rows piece_runs_in line_of
  trunk_reached s v reach = with_piece_if window reach v.has_trunk _ _ refl refl

  start_reached :
      (w : Weight) (strokes : Bool) (x y : ℕ) (reach : Reach) →
      join_reach reach (piece_reach window (own_start_x w strokes x y)) ≡ with_rows reach (row_if window strokes y)
  unfolding own_start_x piece_rows piece_runs_in
  start_reached w strokes x y reach = with_piece_if window reach strokes _ _ refl refl

  tail_reached :
      (s arrow : Bool) (y from to : ℕ) (reach : Reach) →
      join_reach reach (piece_reach window (tail_x s arrow y from to)) ≡ with_rows reach (horizontal_rows window y from to)
  unfolding tail_x line_of
  tail_reached s arrow y from to reach = with_horizontal window reach _

  -- A way that bends once reaches what its numbers say.
  bent_reached :
      (w : Weight) (s : Bool) (v : Bend) (reach : Reach) →
      join_reach reach (reach_of window (bent_x w s v))
      ≡ bent_reach reach window v.has_trunk v.strokes_start v.bend v.x1 v.y1 v.x2 v.y2
  unfolding bent_reach bent_x
  bent_reached w s v reach =
      sym (reach_onto_lem window reach (bent_x w s v))
      ∙ rw (
        trunk_reached s v reach,
        start_reached w v.strokes_start v.x1 v.y1,
        crossing_reached v.y1 v.y2 w s v.bend (corner_arrow_x s v),
        tail_reached s v.end_arrow v.y2 v.bend v.x2,
      )

  -- So does a line in a channel, and the line of a straight leg.

  channel_reached :
      (channel start end : ℕ) (reach : Reach) →
      join_reach reach (piece_reach window (channel_line_x channel start end)) ≡ with_rows reach (horizontal_rows window channel start end)
  unfolding channel_line_x line_of
  channel_reached channel start end reach = with_horizontal window reach _

  line_reached :
      (e : Edge) (leg : Leg) (reach : Reach) →
      join_reach reach (piece_reach window (straight_line_x e leg)) ≡ with_rows reach (horizontal_rows window leg.y1 leg.x1 leg.x2)
  unfolding straight_line_x line_of
  line_reached e leg reach = with_horizontal window reach _

  -- What the code finds, from what it calls: with a crossing, a way that bends once, and a channel between two crossings.

  module _ (reach : Reach) where
    module _ (y1 y2 : ℕ) where
      pub crossing_none : y1 ≡ y2 → reach ≡ with_rows reach (crossing_rows window y1 y2)
      unfolding with_rows crossing_rows
      crossing_none h = rw (eq-eqb y1 y2 h, join_none reach.rows)

      pub crossing_joined :
          (top bottom : ℕ) (between : Option Rows) (r : Reach) →
          r ≡ with_rows reach between →
          between ≡ window_rows window top bottom →
          top ≡ min y1 y2 →
          bottom ≡ max y1 y2 →
          (y1 ≡ y2 → ⊥) →
          r ≡ with_rows reach (crossing_rows window y1 y2)
      unfolding crossing_rows
      crossing_joined top bottom between r p q t b h = rw (ne_eqb y1 y2 h, ← t, ← b, ← q) p

    pub bent_joined :
        (has_trunk strokes : Bool) (bend x1 y1 x2 y2 : ℕ) (trunk start crossed r : Reach) →
        r ≡ with_rows crossed (horizontal_rows window y2 bend x2) →
        crossed ≡ with_rows start (crossing_rows window y1 y2) →
        start ≡ with_rows trunk (row_if window strokes y1) →
        trunk ≡ with_rows reach (trunk_rows window has_trunk y1 x1 bend) →
        r ≡ bent_reach reach window has_trunk strokes bend x1 y1 x2 y2
    unfolding bent_reach
    bent_joined has_trunk strokes bend x1 y1 x2 y2 trunk start crossed r p q u t = rw (← t, ← u, ← q) p

    pub channel_joined :
        (channel first last x1 y1 x2 y2 : ℕ) (trunk out side back r : Reach) →
        r ≡ with_rows back (horizontal_rows window y2 last x2) →
        back ≡ with_rows side (crossing_rows window channel y2) →
        side ≡ with_rows out (horizontal_rows window channel first last) →
        out ≡ with_rows trunk (crossing_rows window y1 channel) →
        trunk ≡ with_rows reach (horizontal_rows window y1 x1 first) →
        r ≡ channel_reach reach window channel first last x1 y1 x2 y2
    unfolding channel_reach
    channel_joined channel first last x1 y1 x2 y2 trunk out side back r p q u t s = rw (← s, ← t, ← u, ← q) p

  -- And for an edge: a Direct one, one with a Corner, and one with a SideChannel.

  module _ (e : Edge) (reach r : Reach) where
    pub direct_reached :
        (row from to : ℕ) →
        r ≡ with_rows reach (horizontal_rows window row from to) →
        row ≡ e.from_y →
        from ≡ e.from_x →
        to ≡ e.to_x →
        r ≡ join_reach reach (piece_reach window (direct_x e))
    unfolding direct_x line_of
    direct_reached row from to p y f t = p ∙ rw (y, f, t) (sym (with_horizontal window reach _))

    pub corner_reached :
        (place bend x1 y1 x2 y2 : ℕ) →
        r ≡ bent_reach reach window true false bend x1 y1 x2 y2 →
        bend ≡ place →
        x1 ≡ e.from_x →
        y1 ≡ e.from_y →
        x2 ≡ e.to_x →
        y2 ≡ e.to_y →
        r ≡ join_reach reach (reach_of window (corner_x e place))
    unfolding corner_x corner_bend
    corner_reached place bend x1 y1 x2 y2 p n a b c d =
        p ∙ rw (n, a, b, c, d) (sym (bent_reached e.weight (sign_x e) (corner_bend e place) reach))

    side_pieces :
        (channel start end : ℕ) →
        join_reach reach (reach_of window (side_x e channel start end))
        ≡ channel_reach reach window channel start end e.from_x e.from_y e.to_x e.to_y
    unfolding channel_reach side_x corner_bend
    side_pieces channel start end =
        sym (reach_onto_lem window reach (side_x e channel start end))
        ∙ rw (
          trunk_reached (sign_x e) (corner_bend e start) reach,
          crossing_reached e.from_y channel e.weight (sign_x e) start (corner_arrow_x (sign_x e) (corner_bend e start)),
          channel_reached channel start end,
          crossing_reached channel e.to_y e.weight (sign_x e) end false,
          tail_reached (sign_x e) (target_marker e) e.to_y end e.to_x,
        )

    pub side_reached :
        (channel start end row first last x1 y1 x2 y2 : ℕ) →
        r ≡ channel_reach reach window row first last x1 y1 x2 y2 →
        row ≡ channel →
        first ≡ start →
        last ≡ end →
        x1 ≡ e.from_x →
        y1 ≡ e.from_y →
        x2 ≡ e.to_x →
        y2 ≡ e.to_y →
        r ≡ join_reach reach (reach_of window (side_x e channel start end))
    side_reached channel start end row first last x1 y1 x2 y2 p k f l a b c d =
        p ∙ rw (k, f, l, a, b, c, d) (sym (side_pieces channel start end))

    -- A leg of a MultiSegment: straight, with a corner below 0, and bent.

    module _ (offset : ℕ) (leg : Leg) where
      pub straight_leg :
          (start : Reach) →
          r ≡ with_rows start (horizontal_rows window leg.y1 leg.x1 leg.x2) →
          start ≡ with_rows reach (row_if window (not leg.first) leg.y1) →
          leg.y1 ≡ leg.y2 →
          r ≡ join_reach reach (reach_of window (leg_x e offset leg))
      unfolding leg_x straight_x
      straight_leg start p q h =
          leg_straight window reach r leg.y1 leg.y2 start _ _ _ _ _
          (start_reached e.weight (not leg.first) leg.x1 leg.y1)
          (line_reached e leg)
          p q h

      module _ (corner : Option ℕ) (is : corner ≡ corner_column e offset leg) (h : leg.y1 ≡ leg.y2 → ⊥) where
        pub below_leg : corner ≡ None → r ≡ reach → r ≡ join_reach reach (reach_of window (leg_x e offset leg))
        unfolding leg_x crossing_x reach_of
        below_leg b p = leg_bent window reach r leg.y1 leg.y2 _ _ h (rw (← is, b) (p ∙ sym (join_no_reach reach)))

        pub bent_leg :
            (bend : ℕ) (has_trunk : Bool) →
            corner ≡ Some bend →
            r ≡ bent_reach reach window has_trunk (not leg.first) bend leg.x1 leg.y1 leg.x2 leg.y2 →
            has_trunk ≡ leg.first && ltb 0 offset →
            r ≡ join_reach reach (reach_of window (leg_x e offset leg))
        unfolding leg_x crossing_x leg_bend
        bent_leg bend has_trunk a p t =
            leg_bent window reach r leg.y1 leg.y2 _ _ h
            (rw (← is, a) (p ∙ rw t (sym (bent_reached e.weight (sign_x e) (leg_bend e offset leg bend) reach))))
