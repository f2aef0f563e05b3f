-- "Y flow": the pieces of an edge that flows down or up, in the order of the text; a piece that is not there is `Nothing`.
use Rattle.std.specs.Prelude.{ℕ, ◌+◌, ◌-◌, min, max, Bool, false, not, cond, ◌&&◌, List, [], ◌∷◌, leb, ltb, eqb, Option, Some, None}
use Rattle.cell.specs.declared.Weight.{Weight}
use Rattle.cell.specs.declared.Dir.{Dir}
use Rattle.cell.specs.declared.Dir.TheVariants.{Up, Down}
use Rattle.cell.specs.OneCell.{vertical}
use Rattle.image.specs.declared.Edge.{Edge}
use Rattle.flow.specs.declared.Bend.{Bend}
use Rattle.flow.specs.declared.Leg.{Leg}
use Rattle.flow.specs.declared.Piece.{Piece}
use Rattle.flow.specs.declared.Piece.TheVariants.{Nothing, Vertical, Run, Stroke, Mark}
use Rattle.flow.specs.Flow.{flow_sign, along, source_marker, target_marker, start_head, end_head, line_of, corner_bend, leg_bend, corner_steps, corner}

-- "Let s be +1 if to y ≥ from y, else −1."
abbrev pub sign_y : Edge → Bool
sign_y e = flow_sign e.from_y e.to_y

-- the direction s, and −s

abbrev pub with_y : Bool → Dir
with_y s = cond s Down Up

abbrev pub against_y : Bool → Dir
against_y s = cond s Up Down

-- "Direct, Spline: vertical at from x, between; end arrow beats start arrow."
unfoldable pub direct_y : Edge → Piece
direct_y e =
    Vertical (line_of e.from_x e.from_y e.to_y
    (end_head (target_marker e) (sign_y e) e.to_y (with_y (sign_y e)))
    (start_head (source_marker e) (sign_y e) e.from_y (against_y (sign_y e))))

-- "Crossing from x1 to x2 on a row: nothing if equal; else a run strictly inside (none if adjacent)"
unfoldable pub cross_run_y : ℕ → ℕ → ℕ → Piece
cross_run_y row x1 x2 = cond (ltb (min x1 x2 + 1) (max x1 x2)) (Run row (min x1 x2 + 1) (max x1 x2 - 1)) Nothing

-- "first corner with an arm toward −s and inward .. An arrow asked for replaces the first corner."
unfoldable pub cross_first_y : Weight → Bool → Bool → ℕ → ℕ → ℕ → Piece
cross_first_y w s arrow row x1 x2 =
    cond (eqb x1 x2) Nothing
    (cond arrow (Mark x1 row (against_y s)) (Stroke x1 row (corner w (not s) (ltb x1 x2))))

-- "last with an arm toward s and inward"
unfoldable pub cross_last_y : Weight → Bool → ℕ → ℕ → ℕ → Piece
cross_last_y w s row x1 x2 = cond (eqb x1 x2) Nothing (Stroke x2 row (corner w s (ltb x2 x1)))

-- "The corner arrow when (bend − from y)·s ≤ 1."

abbrev pub near_y : Bool → ℕ → ℕ → Bool
near_y s from bend = cond s (leb bend (from + 1)) (leb from (bend + 1))

abbrev pub corner_arrow_y : Bool → Bend → Bool
corner_arrow_y s v = v.start_arrow && near_y s v.y1 v.bend

-- a vertical to a bend (start arrow only), a stroke at a leg's own start, and a vertical from a bend (end arrow only)

unfoldable pub trunk_y : Bool → Bend → Piece
trunk_y s v =
    cond v.has_trunk
    (Vertical (line_of v.x1 v.y1 v.bend (start_head v.start_arrow s v.y1 (against_y s)) None))
    Nothing

unfoldable pub own_start_y : Weight → Bool → ℕ → ℕ → Piece
own_start_y w strokes x y = cond strokes (Stroke x y (vertical w)) Nothing

unfoldable pub tail_y : Bool → Bool → ℕ → ℕ → ℕ → Piece
tail_y s arrow x from to = Vertical (line_of x from to (end_head arrow s to (with_y s)) None)

-- a way that bends once, on a row: a trunk to that row, a stroke at its own start, the crossing, and a vertical to its end
unfoldable pub bent_y : Weight → Bool → Bend → List Piece
bent_y w s v =
    trunk_y s v
    ∷ own_start_y w v.strokes_start v.x1 v.y1
    ∷ cross_run_y v.bend v.x1 v.x2
    ∷ cross_first_y w s (corner_arrow_y s v) v.bend v.x1 v.x2
    ∷ cross_last_y w s v.bend v.x1 v.x2
    ∷ tail_y s v.end_arrow v.x2 v.bend v.y2
    ∷ []

-- "Corner: vertical (start arrow only), crossing at the bend, vertical at to x (end arrow only)."
unfoldable pub corner_y : Edge → ℕ → List Piece
corner_y e bend = bent_y e.weight (sign_y e) (corner_bend e bend)

-- "vertical in the channel"
unfoldable pub channel_line_y : ℕ → ℕ → ℕ → Piece
channel_line_y channel start end = Vertical (line_of channel start end None None)

-- "SideChannel: crossing at span start, vertical in the channel, crossing at span end, vertical to the target (end arrow). No source trunk or arrow."
unfoldable pub side_y : Edge → ℕ → ℕ → ℕ → List Piece
side_y e channel start end =
    cross_run_y start e.from_x channel
    ∷ cross_first_y e.weight (sign_y e) false start e.from_x channel
    ∷ cross_last_y e.weight (sign_y e) start e.from_x channel
    ∷ channel_line_y channel start end
    ∷ cross_run_y end channel e.to_x
    ∷ cross_first_y e.weight (sign_y e) false end channel e.to_x
    ∷ cross_last_y e.weight (sign_y e) end channel e.to_x
    ∷ tail_y (sign_y e) (target_marker e) e.to_x end e.to_y
    ∷ []

-- "MultiSegment, legs through the points: equal x gives a vertical (start arrow on the first leg beats end arrow on the last)."
unfoldable pub straight_line_y : Edge → Leg → Piece
straight_line_y e leg =
    Vertical (line_of leg.x1 leg.y1 leg.y2
    (start_head (leg.first && source_marker e) (sign_y e) leg.y1 (against_y (sign_y e)))
    (end_head (leg.last && target_marker e) (sign_y e) leg.y2 (with_y (sign_y e))))

unfoldable pub straight_y : Edge → Leg → List Piece
straight_y e leg = own_start_y e.weight (not leg.first) leg.x1 leg.y1 ∷ straight_line_y e leg ∷ []

-- "Else the corner row is py + s·(1 + offset on the first leg, 0 later)"
unfoldable pub corner_row : Edge → ℕ → Leg → Option ℕ
corner_row e offset leg = along (sign_y e) leg.y1 (corner_steps offset leg)

-- "with offset > 0 the first leg has a trunk to it (start arrow only); crossing; vertical to the next point (end arrow only, on the last leg). Corner
-- arrow on the first leg under the rule of Corner. Every later leg strokes the vertical at its own start." A corner below 0 draws nothing: code 6.
unfoldable pub crossing_y : Edge → ℕ → Leg → Option ℕ → List Piece
crossing_y e offset leg None = []
crossing_y e offset leg (Some row) = bent_y e.weight (sign_y e) (leg_bend e offset leg row)

unfoldable pub leg_y : Edge → ℕ → Leg → List Piece
leg_y e offset leg =
    cond (eqb leg.x1 leg.x2) (straight_y e leg) (crossing_y e offset leg (corner_row e offset leg))
