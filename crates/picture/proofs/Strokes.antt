-- Of which weights the strokes are made: those of an edge are of its own, those of runs of one that is not 0.
use Rattle.std.specs.Prelude.{Option, Some, None}
use native.Mathlib.Omega.{arith}
use Prim.Native.Nat.{ℕ, ◌+◌, ◌≤◌, ◌<◌, min, max}
use mathlib.Core.Bool.{Bool, not, ◌&&◌}
use mathlib.Core.List.{List, [], ◌∷◌}
use mathlib.Core.Path.{◌≡◌}
use lib.Dec.{ltb, eqb}
use Rattle.ground.specs.Each.{numbers}
use Rattle.ground.proofs.Each.{cond_holds}
use Rattle.cell.specs.declared.Weight.{Weight}
use Rattle.cell.specs.declared.Arms.{Arms}
use Rattle.cell.specs.declared.Dir.{Dir}
use Rattle.cell.specs.OneCell.{weight_number, weight_of, horizontal, vertical}
use Rattle.cell.proofs.Laws.{weight_small}
use Rattle.canvas.proofs.PackedStroke.{arm_low}
use Rattle.layout.specs.declared.Tables.{Tables}
use Rattle.image.specs.declared.Edge.{Edge}
use Rattle.image.specs.declared.Point.{Point}
use Rattle.image.specs.declared.Path.{Path}
use Rattle.image.specs.declared.Path.TheVariants.{Direct, Corner, SideChannel, MultiSegment, Orthogonal, Spline}
use Rattle.image.specs.declared.FlowAxis.{FlowAxis}
use Rattle.image.specs.declared.FlowAxis.TheVariants.{Y, X}
use Rattle.flow.specs.declared.Bend.{Bend}
use Rattle.flow.specs.declared.Leg.{Leg}
use Rattle.flow.specs.declared.Line.{Line}
use Rattle.flow.specs.declared.Piece.{Piece}
use Rattle.flow.specs.declared.Piece.TheVariants.{Nothing, Vertical, Horizontal, Run, Stroke, Mark}
use Rattle.flow.specs.Flow.{corner}
use Rattle.y_flow.specs.YFlow.{direct_y, cross_run_y, cross_first_y, cross_last_y, trunk_y, own_start_y, tail_y, bent_y, corner_y}
use Rattle.y_flow.specs.YFlow.{channel_line_y, side_y, straight_line_y, straight_y, corner_row, crossing_y, leg_y}
use Rattle.x_flow.specs.XFlow.{direct_x, cross_line_x, cross_first_x, cross_last_x, trunk_x, own_start_x, tail_x, bent_x, corner_x}
use Rattle.x_flow.specs.XFlow.{channel_line_x, side_x, straight_line_x, straight_x, corner_column, crossing_x, leg_x}
use Rattle.orthogonal.specs.declared.EndMark.{EndMark}
use Rattle.orthogonal.specs.declared.PathLeg.{PathLeg}
use Rattle.orthogonal.specs.Points.{leg_count}
use Rattle.orthogonal.specs.Orthogonal.{column_line, row_line, leg_line, bend_arms, mark_or, bend_piece, leg_bend_piece, leg_pieces, path_leg, pieces_along}
use Rattle.path.specs.Pieces.{direct_on, corner_on, side_on, leg_on, leg_at, multi_pieces, pieces_of, pieces}
use Rattle.runs.specs.declared.Run as waiting
use Rattle.runs.specs.Runs.{covers, over_column, heaviest}
use Rattle.runs.specs.Pieces.{piece_runs}
use Rattle.picture.specs.Writes.{runs_of_edge, runs}
use Rattle.picture.proofs.AllOf.{AllOf, none, more, all_each}

-- the arms that things make of a weight
pub data MadeOf (w : Weight) : Arms → Type 0 where
  -- of a line along a row, or of runs
  along_row : MadeOf w (horizontal w)
  -- of a line along a column
  along_column : MadeOf w (vertical w)
  -- of a box or a crossing
  at_corner : (down right : Bool) → MadeOf w (corner w down right)
  -- of an Orthogonal path
  at_bend : (at before next : Point) → MadeOf w (bend_arms w at before next)

-- a piece whose stroke, where it is one, is made of a weight
pub data PieceOf (w : Weight) : Piece → Type 0 where
  nothing : PieceOf w Nothing
  a_vertical : {l : Line} → PieceOf w (Vertical l)
  a_horizontal : {l : Line} → PieceOf w (Horizontal l)
  a_run : {row first last : ℕ} → PieceOf w (Run row first last)
  a_stroke : {x y : ℕ} {arms : Arms} → MadeOf w arms → PieceOf w (Stroke x y arms)
  a_mark : {x y : ℕ} {dir : Dir} → PieceOf w (Mark x y dir)

abbrev pub PiecesOf : Weight → List Piece → Type 0
PiecesOf w = AllOf (PieceOf w)

-- Y flow.
module _ (w : Weight) where
  own_start_y_lem : (strokes : Bool) (x y : ℕ) → PieceOf w (own_start_y w strokes x y)
  unfolding own_start_y
  own_start_y_lem strokes x y = cond_holds (PieceOf w) strokes (a_stroke along_column) nothing

  cross_run_y_lem : (row x1 x2 : ℕ) → PieceOf w (cross_run_y row x1 x2)
  unfolding cross_run_y
  cross_run_y_lem row x1 x2 = cond_holds (PieceOf w) (ltb (min x1 x2 + 1) (max x1 x2)) a_run nothing

  cross_first_y_lem : (s arrow : Bool) (row x1 x2 : ℕ) → PieceOf w (cross_first_y w s arrow row x1 x2)
  unfolding cross_first_y
  cross_first_y_lem s arrow row x1 x2 =
      cond_holds (PieceOf w) (eqb x1 x2) nothing (cond_holds (PieceOf w) arrow a_mark (a_stroke (at_corner (not s) (ltb x1 x2))))

  cross_last_y_lem : (s : Bool) (row x1 x2 : ℕ) → PieceOf w (cross_last_y w s row x1 x2)
  unfolding cross_last_y
  cross_last_y_lem s row x1 x2 = cond_holds (PieceOf w) (eqb x1 x2) nothing (a_stroke (at_corner s (ltb x2 x1)))

  -- a crossing, and what comes after it
  crossing_y_lem : (s arrow : Bool) (row x1 x2 : ℕ) {rest : List Piece} → PiecesOf w rest →
      PiecesOf w (cross_run_y row x1 x2 ∷ cross_first_y w s arrow row x1 x2 ∷ cross_last_y w s row x1 x2 ∷ rest)
  crossing_y_lem s arrow row x1 x2 p = more (cross_run_y_lem row x1 x2) (more (cross_first_y_lem s arrow row x1 x2) (more (cross_last_y_lem s row x1 x2) p))

  bent_y_lem : (s : Bool) (v : Bend) → PiecesOf w (bent_y w s v)
  unfolding bent_y trunk_y tail_y
  bent_y_lem s v =
      more (cond_holds (PieceOf w) v.has_trunk a_vertical nothing)
      (more (own_start_y_lem v.strokes_start v.x1 v.y1) (crossing_y_lem s _ v.bend v.x1 v.x2 (more a_vertical none)))

module _ (e : Edge) where
  direct_y_lem : PiecesOf e.weight (direct_y e ∷ [])
  unfolding direct_y
  direct_y_lem = more a_vertical none

  side_y_lem : (channel start end : ℕ) → PiecesOf e.weight (side_y e channel start end)
  unfolding side_y channel_line_y tail_y
  side_y_lem channel start end = crossing_y_lem e.weight _ _ start _ channel (more a_vertical (crossing_y_lem e.weight _ _ end channel _ (more a_vertical none)))

  crossed_y : (offset : ℕ) (leg : Leg) (c : Option ℕ) → PiecesOf e.weight (crossing_y e offset leg c)
  unfolding crossing_y
  crossed_y offset leg None = none
  crossed_y offset leg (Some row) = bent_y_lem e.weight _ _

  leg_y_lem : (offset : ℕ) (leg : Leg) → PiecesOf e.weight (leg_y e offset leg)
  unfolding leg_y straight_y straight_line_y
  leg_y_lem offset leg =
      cond_holds (PiecesOf e.weight) (eqb leg.x1 leg.x2)
      (more (own_start_y_lem e.weight _ _ _) (more a_vertical none))
      (crossed_y offset leg (corner_row e offset leg))

-- X flow.
module _ (w : Weight) where
  own_start_x_lem : (strokes : Bool) (x y : ℕ) → PieceOf w (own_start_x w strokes x y)
  unfolding own_start_x
  own_start_x_lem strokes x y = cond_holds (PieceOf w) strokes (a_stroke along_row) nothing

  cross_first_x_lem : (s arrow : Bool) (column y1 y2 : ℕ) → PieceOf w (cross_first_x w s arrow column y1 y2)
  unfolding cross_first_x
  cross_first_x_lem s arrow column y1 y2 =
      cond_holds (PieceOf w) (eqb y1 y2) nothing (cond_holds (PieceOf w) arrow a_mark (a_stroke (at_corner (ltb y1 y2) (not s))))

  cross_last_x_lem : (s : Bool) (column y1 y2 : ℕ) → PieceOf w (cross_last_x w s column y1 y2)
  unfolding cross_last_x
  cross_last_x_lem s column y1 y2 = cond_holds (PieceOf w) (eqb y1 y2) nothing (a_stroke (at_corner (ltb y2 y1) s))

  -- a crossing, and what comes after it
  crossing_x_lem :
      (s arrow : Bool) (column y1 y2 : ℕ) {rest : List Piece} → PiecesOf w rest →
      PiecesOf w (cross_line_x column y1 y2 ∷ cross_first_x w s arrow column y1 y2 ∷ cross_last_x w s column y1 y2 ∷ rest)
  unfolding cross_line_x
  crossing_x_lem s arrow column y1 y2 p = more a_vertical (more (cross_first_x_lem s arrow column y1 y2) (more (cross_last_x_lem s column y1 y2) p))

  trunk_x_lem : (s : Bool) (v : Bend) → PieceOf w (trunk_x s v)
  unfolding trunk_x
  trunk_x_lem s v = cond_holds (PieceOf w) v.has_trunk a_horizontal nothing

  bent_x_lem : (s : Bool) (v : Bend) → PiecesOf w (bent_x w s v)
  unfolding bent_x tail_x
  bent_x_lem s v =
      more (trunk_x_lem s v)
      (more (own_start_x_lem v.strokes_start v.x1 v.y1) (crossing_x_lem s _ v.bend v.y1 v.y2 (more a_horizontal none)))

module _ (e : Edge) where
  direct_x_lem : PiecesOf e.weight (direct_x e ∷ [])
  unfolding direct_x
  direct_x_lem = more a_horizontal none

  side_x_lem : (channel start end : ℕ) → PiecesOf e.weight (side_x e channel start end)
  unfolding side_x channel_line_x tail_x
  side_x_lem channel start end =
      more (trunk_x_lem e.weight _ _)
      (crossing_x_lem e.weight _ _ start _ channel (more a_horizontal (crossing_x_lem e.weight _ _ end channel _ (more a_horizontal none))))

  crossed_x : (offset : ℕ) (leg : Leg) (c : Option ℕ) → PiecesOf e.weight (crossing_x e offset leg c)
  unfolding crossing_x
  crossed_x offset leg None = none
  crossed_x offset leg (Some column) = bent_x_lem e.weight _ _

  leg_x_lem : (offset : ℕ) (leg : Leg) → PiecesOf e.weight (leg_x e offset leg)
  unfolding leg_x straight_x straight_line_x
  leg_x_lem offset leg =
      cond_holds (PiecesOf e.weight) (eqb leg.y1 leg.y2)
      (more (own_start_x_lem e.weight _ _ _) (more a_horizontal none))
      (crossed_x offset leg (corner_column e offset leg))

-- Orthogonal.
module _ (w : Weight) where
  mark_or_lem : (m : Option EndMark) (x y : ℕ) {other : Piece} → PieceOf w other → PieceOf w (mark_or m x y other)
  unfolding mark_or
  mark_or_lem None x y p = p
  mark_or_lem (Some m) x y p = cond_holds (PieceOf w) (eqb m.x x && eqb m.y y) a_mark p

  leg_bend_lem : (target source : Option EndMark) (leg : PathLeg) → PieceOf w (leg_bend_piece w target source leg)
  unfolding leg_bend_piece bend_piece
  leg_bend_lem target source leg =
      cond_holds (PieceOf w) leg.first nothing
      (mark_or_lem target _ _ (mark_or_lem source _ _ (a_stroke (at_bend leg.from leg.before leg.to))))

  leg_line_lem : (target source : Option EndMark) (leg : PathLeg) → PieceOf w (leg_line target source leg)
  unfolding leg_line column_line row_line
  leg_line_lem target source leg =
      cond_holds (PieceOf w) (eqb leg.from.x leg.to.x) a_vertical
      (cond_holds (PieceOf w) (eqb leg.from.y leg.to.y) a_horizontal nothing)

orthogonal_pieces_lem : (e : Edge) (path : List Point) → PiecesOf e.weight (pieces_along e path)
unfolding pieces_along leg_pieces
orthogonal_pieces_lem e path =
    all_each (numbers 0 (leg_count path)) _ (λ k. more (leg_bend_lem e.weight _ _ (path_leg path k)) (more (leg_line_lem e.weight _ _ (path_leg path k)) none))

-- The pieces of an edge, whatever its path.

module _ (e : Edge) where
  direct_on_lem : (a : FlowAxis) → PiecesOf e.weight (direct_on a e)
  unfolding direct_on
  direct_on_lem Y = direct_y_lem e
  direct_on_lem X = direct_x_lem e

  corner_on_lem : (a : FlowAxis) (bend : ℕ) → PiecesOf e.weight (corner_on a e bend)
  unfolding corner_on corner_y corner_x
  corner_on_lem Y bend = bent_y_lem e.weight _ _
  corner_on_lem X bend = bent_x_lem e.weight _ _

  side_on_lem : (a : FlowAxis) (channel start end : ℕ) → PiecesOf e.weight (side_on a e channel start end)
  unfolding side_on
  side_on_lem Y channel start end = side_y_lem e channel start end
  side_on_lem X channel start end = side_x_lem e channel start end

  leg_on_lem : (a : FlowAxis) (offset : ℕ) (leg : Leg) → PiecesOf e.weight (leg_on a e offset leg)
  unfolding leg_on
  leg_on_lem Y offset leg = leg_y_lem e offset leg
  leg_on_lem X offset leg = leg_x_lem e offset leg

  pieces_of_lem : (p : Path) (points : List ℕ) → PiecesOf e.weight (pieces_of p e points)
  unfolding pieces_of multi_pieces
  pieces_of_lem Direct points = direct_on_lem e.flow_axis
  pieces_of_lem (Corner bend) points = corner_on_lem e.flow_axis bend
  pieces_of_lem (SideChannel channel start end) points = side_on_lem e.flow_axis channel start end
  pieces_of_lem (MultiSegment span offset) points = all_each _ _ (λ k. leg_on_lem e.flow_axis offset (leg_at e points k))
  pieces_of_lem (Orthogonal span) points = orthogonal_pieces_lem e _
  pieces_of_lem Spline points = direct_on_lem e.flow_axis

-- Every stroke of an edge is made of its weight.
pub edge_pieces : (e : Edge) (points : List ℕ) → PiecesOf e.weight (pieces e points)
edge_pieces e points = pieces_of_lem e e.path points

-- The runs of an image: their numbers are those of weights, and so is the heaviest of them.

abbrev WeightSmall : waiting.Run → Type 0
WeightSmall r = r.weight ≤ 3

piece_runs_lem : (e : Edge) (number : ℕ) (p : Piece) → AllOf WeightSmall (piece_runs e number p)
unfolding piece_runs
piece_runs_lem e number Nothing = none
piece_runs_lem e number (Vertical l) = none
piece_runs_lem e number (Horizontal l) = none
piece_runs_lem e number (Run row first last) = more (weight_small e.weight) none
piece_runs_lem e number (Stroke x y arms) = none
piece_runs_lem e number (Mark x y dir) = none

runs_small : (image : List ℕ) (ts : Tables) → AllOf WeightSmall (runs image ts)
unfolding runs_of_edge
runs_small image ts = all_each _ _ (λ k. all_each _ _ (piece_runs_lem _ _))

heaviest_small : (y x : ℕ) {runs : List waiting.Run} → AllOf WeightSmall runs → heaviest runs y x ≤ 3
unfolding over_column
heaviest_small y x none = omega arith
heaviest_small y x (more {a = r} {rest = rest} small p) =
    let after : heaviest rest y x ≤ 3 = heaviest_small y x p in
    cond_holds (λ (n : ℕ). n ≤ 3) (covers r y x) (omega arith) after

-- Where a run covers, the weight that is inked is not 0.
pub run_weight : (image : List ℕ) (ts : Tables) (y x : ℕ) → (heaviest (runs image ts) y x ≡ 0 → ⊥) → 0 < weight_number (weight_of (heaviest (runs image ts) y x))
run_weight image ts y x h =
    let small = heaviest_small y x (runs_small image ts) in
    let same = arm_low (heaviest (runs image ts) y x) small in
    omega arith
