-- A leg touches no row that lies above both its ends and its corner, and none that lies below all three; so that its ends alone may tell that it touches no
-- row of a window.
use Rattle.std.specs.Prelude.{Option, Some, None}
use native.Mathlib.Omega.{arith}
use Prim.Native.Nat.{ℕ, zero, suc, ◌+◌, ◌-◌, ◌≤◌, ◌<◌, min, max}
use mathlib.Core.Path.{◌≡◌, refl}
use mathlib.Core.Bool.{Bool, true, false, not, cond, ◌&&◌}
use mathlib.Core.List.{List, [], ◌∷◌, map}
use lib.Dec.{eqb}
use borrow.Author.Tests.{ne_eqb}
use Rattle.ground.specs.Each.{numbers, between, some}
use Rattle.ground.proofs.Each.{or_neither, cond_holds}
use Rattle.ground.proofs.Order.{by_order}
use Rattle.cell.specs.declared.Weight.{Weight}
use Rattle.image.specs.declared.Edge.{Edge}
use Rattle.image.specs.declared.FlowAxis.{FlowAxis}
use Rattle.image.specs.declared.FlowAxis.TheVariants as axis
use Rattle.rows.specs.Spots.{Ink, at, touches}
use Rattle.flow.specs.declared.Bend.{Bend}
use Rattle.flow.specs.declared.Leg.{Leg}
use Rattle.flow.specs.declared.Line.{Line}
use Rattle.flow.specs.declared.Piece.{Piece}
use Rattle.flow.specs.declared.Piece.TheVariants.{Nothing, Vertical, Horizontal, Run, Stroke, Mark}
use Rattle.flow.specs.Flow.{along, corner_steps, line_of, leg_bend}
use Rattle.flow.specs.Pieces.{piece_spots, piece_touches}
use Rattle.flow.specs.Reach.{has_inside}
use Rattle.flow.proofs.Signed.{along_with, along_back, along_below}
use Rattle.y_flow.specs.YFlow as down
use Rattle.x_flow.specs.XFlow as across
use Rattle.path.specs.Pieces.{leg_on}

-- a row that lies above another, or (the test false) below it
abbrev Off : Bool → ℕ → ℕ → Type 0
Off above y row = cond above (y < row) (row < y)

module _ (y : ℕ) where
  -- on another row lies no spot of this one, whatever its ink

  other_row : (above : Bool) (row : ℕ) → Off above y row → eqb row y ≡ false
  other_row true row h = ne_eqb row y (λ p. omega arith)
  other_row false row h = ne_eqb row y (λ p. omega arith)

  no_spot : (above : Bool) (row : ℕ) (inked : Bool) → Off above y row → (eqb row y && inked) ≡ false
  no_spot above row inked h = rw (other_row above row h)

  -- a column of spots below the row, or above it, and a row of spots on another row

  spots_below : (x : ℕ) (f : ℕ → Ink) (first n : ℕ) → y < first → touches [] (map (λ r. at x r (f r)) (numbers first n)) y ≡ false
  unfolding numbers touches some
  spots_below x f first zero h = refl
  spots_below x f first (suc n) h = or_neither (no_spot true first _ h) (spots_below x f (suc first) n (omega arith))

  spots_above : (x : ℕ) (f : ℕ → Ink) (first n : ℕ) → first + n ≤ y → touches [] (map (λ r. at x r (f r)) (numbers first n)) y ≡ false
  unfolding numbers touches some
  spots_above x f first zero h = refl
  spots_above x f first (suc n) h = or_neither (no_spot false first _ (omega arith)) (spots_above x f (suc first) n (omega arith))

  spots_along : (above : Bool) (row : ℕ) (f : ℕ → Ink) (columns : List ℕ) → Off above y row → touches [] (map (λ x. at x row (f x)) columns) y ≡ false
  unfolding touches some
  spots_along above row f [] h = refl
  spots_along above row f (x ∷ rest) h = or_neither (no_spot above row _ h) (spots_along above row f rest h)

  -- a piece that does not touch the row, whatever edge it is of
  record Clear (p : Piece) : Type 0 where
    clear : (other : Edge) → piece_touches other p y ≡ false

  -- pieces of which none does
  record AllClear (ps : List Piece) : Type 0 where
    all_clear : (other : Edge) → some ps (λ p. piece_touches other p y) ≡ false

  all_none : AllClear []
  unfolding some
  all_none = record { all_clear = λ other. refl }

  all_then : {p : Piece} {rest : List Piece} → Clear p → AllClear rest → AllClear (p ∷ rest)
  unfolding some
  all_then p rest = record { all_clear = λ other. or_neither (p.clear other) (rest.all_clear other) }

  -- Each kind of piece.

  clear_nothing : Clear Nothing
  unfolding piece_touches piece_spots touches some
  clear_nothing = record { clear = λ other. refl }

  module _ (above : Bool) where
    clear_stroke : (x row : ℕ) (arms : _) → Off above y row → Clear (Stroke x row arms)
    unfolding piece_touches piece_spots touches some
    clear_stroke x row arms h = record { clear = λ other. rw (other_row above row h) }

    clear_mark : (x row : ℕ) (dir : _) → Off above y row → Clear (Mark x row dir)
    unfolding piece_touches piece_spots touches some
    clear_mark x row dir h = record { clear = λ other. rw (other_row above row h) }

    clear_run : (row first last : ℕ) → Off above y row → Clear (Run row first last)
    unfolding piece_touches piece_spots touches some
    clear_run row first last h = record { clear = λ other. rw (other_row above row h) }

    clear_horizontal : (l : Line) → Off above y l.lane → Clear (Horizontal l)
    unfolding piece_touches piece_spots
    clear_horizontal l h = record { clear = λ other. or_neither (spots_along above l.lane _ (between l.from l.to) h) refl }

  clear_vertical : (above : Bool) (l : Line) → Off above y l.from → Off above y l.to → Clear (Vertical l)
  unfolding piece_touches piece_spots
  clear_vertical true l f t = record {
    clear = λ other. or_neither (spots_below l.lane _ (min l.from l.to + 1) (max l.from l.to - (min l.from l.to + 1)) (omega arith)) refl;
  }
  clear_vertical false l f t = record {
    clear = λ other. or_neither (spots_above l.lane _ (min l.from l.to + 1) (max l.from l.to - (min l.from l.to + 1)) (omega arith)) refl;
  }

  clear_if : (test : Bool) {p q : Piece} → Clear p → Clear q → Clear (cond test p q)
  clear_if test p q = cond_holds Clear test p q

  module _ (above : Bool) (w : Weight) (s : Bool) where
    -- Y flow: a way that bends on a row off this one, between ends off it.
    bent_y_lem : (v : Bend) → Off above y v.y1 → Off above y v.y2 → Off above y v.bend → AllClear (down.bent_y w s v)
    unfolding down.bent_y down.trunk_y down.own_start_y down.cross_run_y down.cross_first_y down.cross_last_y down.tail_y line_of
    bent_y_lem v p q b =
        all_then (clear_if v.has_trunk (clear_vertical above _ p b) clear_nothing)
        (all_then (clear_if v.strokes_start (clear_stroke above _ _ _ p) clear_nothing)
        (all_then (clear_if (has_inside v.x1 v.x2) (clear_run above _ _ _ b) clear_nothing)
        (all_then (clear_if (eqb v.x1 v.x2) clear_nothing (clear_if (down.corner_arrow_y s v) (clear_mark above _ _ _ b) (clear_stroke above _ _ _ b)))
        (all_then (clear_if (eqb v.x1 v.x2) clear_nothing (clear_stroke above _ _ _ b))
        (all_then (clear_vertical above _ b q) all_none)))))

    -- X flow: all its rows lie from one end to the other.
    bent_x_lem : (v : Bend) → Off above y v.y1 → Off above y v.y2 → AllClear (across.bent_x w s v)
    unfolding across.bent_x across.trunk_x across.own_start_x across.cross_line_x across.cross_first_x across.cross_last_x across.tail_x line_of
    bent_x_lem v p q =
        all_then (clear_if v.has_trunk (clear_horizontal above _ p) clear_nothing)
        (all_then (clear_if v.strokes_start (clear_stroke above _ _ _ p) clear_nothing)
        (all_then (clear_vertical above _ p q)
        (all_then (clear_if (eqb v.y1 v.y2) clear_nothing (clear_if (across.corner_arrow_x s v) (clear_mark above _ _ _ p) (clear_stroke above _ _ _ p)))
        (all_then (clear_if (eqb v.y1 v.y2) clear_nothing (clear_stroke above _ _ _ q))
        (all_then (clear_horizontal above _ q) all_none)))))

  -- A leg, whose ends lie so far off the row that no corner reaches it.
  abbrev Far : Bool → ℕ → ℕ → Type 0
  Far above steps row = cond above (y + steps < row) (row + steps < y)

  near_off : (above : Bool) (steps row : ℕ) → Far above steps row → Off above y row
  near_off true steps row h = omega arith
  near_off false steps row h = omega arith

  module _ (above : Bool) (e : Edge) (offset : ℕ) (leg : Leg) where
    abbrev steps : ℕ
    steps = corner_steps offset leg

    module _ (p : Far above steps leg.y1) (q : Far above steps leg.y2) where
      one : Off above y leg.y1
      one = near_off above steps leg.y1 p

      two : Off above y leg.y2
      two = near_off above steps leg.y2 q

      -- the corner's row is no further than so many steps from the start

      with_flow : (far : Bool) → Far far steps leg.y1 → Off far y (leg.y1 + steps)
      with_flow true h = omega arith
      with_flow false h = h

      against_flow : (far : Bool) → steps ≤ leg.y1 → Far far steps leg.y1 → Off far y (leg.y1 - steps)
      against_flow true k h = omega arith
      against_flow false k h = omega arith

      bent_at : (row : ℕ) → Off above y row → AllClear (down.crossing_y e offset leg (Some row))
      unfolding down.crossing_y leg_bend
      bent_at row b = bent_y_lem above e.weight (down.sign_y e) (leg_bend e offset leg row) one two b

      crossing_y_lem : (s : Bool) → AllClear (down.crossing_y e offset leg (along s leg.y1 steps))
      unfolding down.crossing_y
      crossing_y_lem true = rw (along_with leg.y1 steps) (bent_at (leg.y1 + steps) (with_flow above p))
      crossing_y_lem false =
          by_order leg.y1 steps
          (λ b. rw (along_below leg.y1 steps b) all_none)
          (λ a. rw (along_back leg.y1 steps a) (bent_at (leg.y1 - steps) (against_flow above a p)))

      crossing_x_lem : (c : Option ℕ) → AllClear (across.crossing_x e offset leg c)
      unfolding across.crossing_x leg_bend
      crossing_x_lem None = all_none
      crossing_x_lem (Some column) = bent_x_lem above e.weight (across.sign_x e) (leg_bend e offset leg column) one two

      straight_y_lem : AllClear (down.straight_y e leg)
      unfolding down.straight_y down.own_start_y down.straight_line_y line_of
      straight_y_lem =
          all_then (clear_if (not leg.first) (clear_stroke above _ _ _ one) clear_nothing)
          (all_then (clear_vertical above _ one two) all_none)

      straight_x_lem : AllClear (across.straight_x e leg)
      unfolding across.straight_x across.own_start_x across.straight_line_x line_of
      straight_x_lem =
          all_then (clear_if (not leg.first) (clear_stroke above _ _ _ one) clear_nothing)
          (all_then (clear_horizontal above _ one) all_none)

      leg_clear : (a : FlowAxis) → AllClear (leg_on a e offset leg)
      unfolding leg_on down.leg_y down.corner_row across.leg_x
      leg_clear axis.Y = cond_holds AllClear (eqb leg.x1 leg.x2) straight_y_lem (crossing_y_lem (down.sign_y e))
      leg_clear axis.X = cond_holds AllClear (eqb leg.y1 leg.y2) straight_x_lem (crossing_x_lem (across.corner_column e offset leg))

-- What the code tests: the leg's greatest row lies so many steps above the window, or its least so many below it.

module _ (first rows : ℕ) (leg : Leg) (offset more : ℕ) (is : more ≡ corner_steps offset leg) where
  -- no edge with this leg has a row of the window: `NoRow`, written out
  abbrev Passed : Type 0
  Passed = (e other : Edge) (y : ℕ) → first ≤ y → y < first + rows → some (leg_on e.flow_axis e offset leg) (λ p. piece_touches other p y) ≡ false

  pub lies_above : (highest : ℕ) → highest ≡ max leg.y1 leg.y2 → highest + more < first → Passed
  lies_above highest h far e other y f l =
      let one : leg.y1 + corner_steps offset leg < y = omega arith in
      let two : leg.y2 + corner_steps offset leg < y = omega arith in
      (leg_clear y false e offset leg one two e.flow_axis).all_clear other

  pub lies_below : (lowest : ℕ) → lowest ≡ min leg.y1 leg.y2 → first + rows + more ≤ lowest → Passed
  lies_below lowest h far e other y f l =
      let one : y + corner_steps offset leg < leg.y1 = omega arith in
      let two : y + corner_steps offset leg < leg.y2 = omega arith in
      (leg_clear y true e offset leg one two e.flow_axis).all_clear other
