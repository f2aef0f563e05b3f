-- "X flow exchanges the axes, but crossings are immediate strokes; the corner arrow needs bend = from x + s exactly; SideChannel has a source trunk and
-- start arrow, its bend being span start." Bends and spans are columns, the channel is a row, the offset counts columns. The pieces stand in the order of the
-- text; a piece that is not there is `Nothing`.
use Rattle.std.specs.Prelude.{ℕ, ◌+◌, Bool, false, not, cond, ◌&&◌, List, [], ◌∷◌, ltb, eqb, Option, Some, None}
use Rattle.cell.specs.declared.Weight.{Weight}
use Rattle.cell.specs.declared.Dir.{Dir}
use Rattle.cell.specs.declared.Dir.TheVariants.{Left, Right}
use Rattle.cell.specs.OneCell.{horizontal}
use Rattle.image.specs.declared.Edge.{Edge}
use Rattle.flow.specs.declared.Bend.{Bend}
use Rattle.flow.specs.declared.Leg.{Leg}
use Rattle.flow.specs.declared.Piece.{Piece}
use Rattle.flow.specs.declared.Piece.TheVariants.{Nothing, Vertical, Horizontal, Stroke, Mark}
use Rattle.flow.specs.Flow.{flow_sign, along, source_marker, target_marker, start_head, end_head, line_of, corner_bend, leg_bend, corner_steps, corner}

-- s is +1 if to x ≥ from x, else −1
abbrev pub sign_x : Edge → Bool
sign_x e = flow_sign e.from_x e.to_x

-- the direction s, and −s

abbrev pub with_x : Bool → Dir
with_x s = cond s Right Left

abbrev pub against_x : Bool → Dir
against_x s = cond s Left Right

-- Direct, Spline: horizontal at from y, between; end arrow beats start arrow
unfoldable pub direct_x : Edge → Piece
direct_x e =
    Horizontal (line_of e.from_y e.from_x e.to_x
    (end_head (target_marker e) (sign_x e) e.to_x (with_x (sign_x e)))
    (start_head (source_marker e) (sign_x e) e.from_x (against_x (sign_x e))))

-- a crossing from y1 to y2 on a column: the strokes strictly inside, at once
unfoldable pub cross_line_x : ℕ → ℕ → ℕ → Piece
cross_line_x column y1 y2 = Vertical (line_of column y1 y2 None None)

-- first corner with an arm toward −s and inward; an arrow asked for replaces it
unfoldable pub cross_first_x : Weight → Bool → Bool → ℕ → ℕ → ℕ → Piece
cross_first_x w s arrow column y1 y2 =
    cond (eqb y1 y2) Nothing
    (cond arrow (Mark column y1 (against_x s)) (Stroke column y1 (corner w (ltb y1 y2) (not s))))

-- last corner with an arm toward s and inward
unfoldable pub cross_last_x : Weight → Bool → ℕ → ℕ → ℕ → Piece
cross_last_x w s column y1 y2 = cond (eqb y1 y2) Nothing (Stroke column y2 (corner w (ltb y2 y1) s))

-- "the corner arrow needs bend = from x + s exactly"

abbrev pub next_x : Bool → ℕ → ℕ → Bool
next_x s from bend = cond s (eqb bend (from + 1)) (eqb (bend + 1) from)

abbrev pub corner_arrow_x : Bool → Bend → Bool
corner_arrow_x s v = v.start_arrow && next_x s v.x1 v.bend

-- a horizontal to a bend (start arrow only), a stroke at a leg's own start, and a horizontal from a bend (end arrow only)

unfoldable pub trunk_x : Bool → Bend → Piece
trunk_x s v =
    cond v.has_trunk
    (Horizontal (line_of v.y1 v.x1 v.bend (start_head v.start_arrow s v.x1 (against_x s)) None))
    Nothing

unfoldable pub own_start_x : Weight → Bool → ℕ → ℕ → Piece
own_start_x w strokes x y = cond strokes (Stroke x y (horizontal w)) Nothing

unfoldable pub tail_x : Bool → Bool → ℕ → ℕ → ℕ → Piece
tail_x s arrow y from to = Horizontal (line_of y from to (end_head arrow s to (with_x s)) None)

-- a way that bends once, on a column: a trunk to that column, a stroke at its own start, the crossing, and a horizontal to its end
unfoldable pub bent_x : Weight → Bool → Bend → List Piece
bent_x w s v =
    trunk_x s v
    ∷ own_start_x w v.strokes_start v.x1 v.y1
    ∷ cross_line_x v.bend v.y1 v.y2
    ∷ cross_first_x w s (corner_arrow_x s v) v.bend v.y1 v.y2
    ∷ cross_last_x w s v.bend v.y1 v.y2
    ∷ tail_x s v.end_arrow v.y2 v.bend v.x2
    ∷ []

-- Corner: horizontal (start arrow only), crossing at the bend, horizontal at to y (end arrow only)
unfoldable pub corner_x : Edge → ℕ → List Piece
corner_x e bend = bent_x e.weight (sign_x e) (corner_bend e bend)

-- horizontal in the channel
unfoldable pub channel_line_x : ℕ → ℕ → ℕ → Piece
channel_line_x channel start end = Horizontal (line_of channel start end None None)

-- SideChannel: a source trunk (start arrow), crossing at span start (the corner arrow as at a bend), horizontal in the channel, crossing at span end,
-- horizontal to the target (end arrow)
unfoldable pub side_x : Edge → ℕ → ℕ → ℕ → List Piece
side_x e channel start end =
    trunk_x (sign_x e) (corner_bend e start)
    ∷ cross_line_x start e.from_y channel
    ∷ cross_first_x e.weight (sign_x e) (corner_arrow_x (sign_x e) (corner_bend e start)) start e.from_y channel
    ∷ cross_last_x e.weight (sign_x e) start e.from_y channel
    ∷ channel_line_x channel start end
    ∷ cross_line_x end channel e.to_y
    ∷ cross_first_x e.weight (sign_x e) false end channel e.to_y
    ∷ cross_last_x e.weight (sign_x e) end channel e.to_y
    ∷ tail_x (sign_x e) (target_marker e) e.to_y end e.to_x
    ∷ []

-- MultiSegment: equal y gives a horizontal (start arrow on the first leg beats end arrow on the last); every later leg strokes the horizontal at its start

unfoldable pub straight_line_x : Edge → Leg → Piece
straight_line_x e leg =
    Horizontal (line_of leg.y1 leg.x1 leg.x2
    (start_head (leg.first && source_marker e) (sign_x e) leg.x1 (against_x (sign_x e)))
    (end_head (leg.last && target_marker e) (sign_x e) leg.x2 (with_x (sign_x e))))

unfoldable pub straight_x : Edge → Leg → List Piece
straight_x e leg = own_start_x e.weight (not leg.first) leg.x1 leg.y1 ∷ straight_line_x e leg ∷ []

-- else the corner column is px + s·(1 + offset on the first leg, 0 later)
unfoldable pub corner_column : Edge → ℕ → Leg → Option ℕ
corner_column e offset leg = along (sign_x e) leg.x1 (corner_steps offset leg)

-- with offset > 0 the first leg has a trunk to it; a corner below 0 draws nothing: code 6
unfoldable pub crossing_x : Edge → ℕ → Leg → Option ℕ → List Piece
crossing_x e offset leg None = []
crossing_x e offset leg (Some column) = bent_x e.weight (sign_x e) (leg_bend e offset leg column)

unfoldable pub leg_x : Edge → ℕ → Leg → List Piece
leg_x e offset leg =
    cond (eqb leg.y1 leg.y2) (straight_x e leg) (crossing_x e offset leg (corner_column e offset leg))
