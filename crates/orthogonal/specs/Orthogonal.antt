-- "Orthogonal, both axes: skip repeated points; slanted legs paint no interior and give no marker. Markers as `orthogonal_markers`: one cell inside a leg
-- of length ≥ 2, else the neighbouring bend, else none; target wins; drawn wherever the path passes that cell. Other bends get arms toward both
-- neighbours, x compared first."
use Rattle.std.specs.Prelude.{ℕ, ◌+◌, ◌-◌, min, max, Bool, cond, ◌&&◌, ◌||◌, List, [], ◌∷◌, leb, ltb, eqb, Option, None, Some}
use Rattle.ground.specs.Each.{numbers, each}
use Rattle.cell.specs.declared.Weight.{Weight}
use Rattle.cell.specs.declared.Weight.TheVariants as weight
use Rattle.cell.specs.declared.Arms.{Arms}
use Rattle.cell.specs.declared.Dir.{Dir}
use Rattle.cell.specs.declared.Dir.TheVariants.{Up, Down, Left, Right}
use Rattle.cell.specs.OneCell.{heavier_arms}
use Rattle.image.specs.declared.Edge.{Edge}
use Rattle.image.specs.declared.Point.{Point}
use Rattle.flow.specs.declared.Head.{Head}
use Rattle.flow.specs.declared.Piece.{Piece}
use Rattle.flow.specs.declared.Piece.TheVariants.{Nothing, Vertical, Horizontal, Stroke, Mark}
use Rattle.flow.specs.Flow.{source_marker, target_marker, line_of}
use Rattle.orthogonal.specs.declared.PathLeg.{PathLeg}
use Rattle.orthogonal.specs.declared.EndMark.{EndMark}
use Rattle.orthogonal.specs.declared.EndMarks.{EndMarks}
use Rattle.orthogonal.specs.Points.{stops, stop_at, leg_count}

-- from a cell toward another: "x compared first"
unfoldable pub toward : Point → Point → Dir
toward a t = cond (ltb t.x a.x) Left (cond (ltb a.x t.x) Right (cond (ltb t.y a.y) Up Down))

-- a leg along a column or a row; any other is slanted
abbrev pub straight : Point → Point → Bool
straight a b = eqb a.x b.x || eqb a.y b.y

abbrev pub apart : ℕ → ℕ → ℕ
apart u v = max u v - min u v

-- "a leg of length ≥ 2"
abbrev pub long : Point → Point → Bool
long a b = leb 2 (apart a.x b.x + apart a.y b.y)

-- one cell from a number toward another
abbrev pub nearer : ℕ → ℕ → ℕ
nearer u v = cond (ltb u v) (u + 1) (u - 1)

-- one cell from a toward b, on a straight leg
abbrev pub inside : Point → Point → Point
inside a b =
    cond (eqb a.x b.x) (record { x = a.x; y = nearer a.y b.y })
    (record { x = nearer a.x b.x; y = a.y })

-- an arrow in a cell, pointing toward another
abbrev pub mark_facing : Point → Point → EndMark
mark_facing at t = record { x = at.x; y = at.y; dir = toward at t }

-- the marker of one end, on the leg from that end to its neighbour: "one cell inside a leg of length ≥ 2, else the neighbouring bend, else none"
unfoldable pub end_mark : Bool → Bool → Point → Point → Option EndMark
end_mark wanted only at next =
    cond (wanted && straight at next)
    (cond (long at next) (Some (mark_facing (inside at next) at)) (cond only None (Some (mark_facing next at))))
    None

-- the markers of a path: the source's on its first leg, the target's on its last

abbrev pub only_leg : List Point → Bool
only_leg path = eqb (leg_count path) 1

unfoldable pub source_mark : Edge → List Point → Option EndMark
source_mark e path =
    cond (leb 1 (leg_count path)) (end_mark (source_marker e) (only_leg path) (stop_at path 0) (stop_at path 1)) None

unfoldable pub target_mark : Edge → List Point → Option EndMark
target_mark e path =
    cond (leb 1 (leg_count path))
    (end_mark (target_marker e) (only_leg path) (stop_at path (leg_count path)) (stop_at path (leg_count path - 1)))
    None

unfoldable pub end_marks : Edge → List Point → EndMarks
end_marks e path = record { source = source_mark e path; target = target_mark e path }

-- a marker as an arrow of the line at a column, and of the line at a row: "drawn wherever the path passes that cell"

abbrev pub head_on_column : Option EndMark → ℕ → Option Head
head_on_column None column = None
head_on_column (Some m) column = cond (eqb m.x column) (Some (record { place = m.y; dir = m.dir })) None

abbrev pub head_on_row : Option EndMark → ℕ → Option Head
head_on_row None row = None
head_on_row (Some m) row = cond (eqb m.y row) (Some (record { place = m.x; dir = m.dir })) None

-- the interior of a leg along a column, and along a row: "target wins"

unfoldable pub column_line : Option EndMark → Option EndMark → Point → Point → Piece
column_line target source from to =
    Vertical (line_of from.x from.y to.y (head_on_column target from.x) (head_on_column source from.x))

unfoldable pub row_line : Option EndMark → Option EndMark → Point → Point → Piece
row_line target source from to =
    Horizontal (line_of from.y from.x to.x (head_on_row target from.y) (head_on_row source from.y))

-- the interior of a leg: "slanted legs paint no interior"
unfoldable pub leg_line : Option EndMark → Option EndMark → PathLeg → Piece
leg_line target source leg =
    cond (eqb leg.from.x leg.to.x) (column_line target source leg.from leg.to)
    (cond (eqb leg.from.y leg.to.y) (row_line target source leg.from leg.to) Nothing)

abbrev pub only_arm : Weight → Dir → Arms
only_arm w Up = record { up = w; down = weight.None; left = weight.None; right = weight.None }
only_arm w Down = record { up = weight.None; down = w; left = weight.None; right = weight.None }
only_arm w Left = record { up = weight.None; down = weight.None; left = w; right = weight.None }
only_arm w Right = record { up = weight.None; down = weight.None; left = weight.None; right = w }

-- "Other bends get arms toward both neighbours"
unfoldable pub bend_arms : Weight → Point → Point → Point → Arms
bend_arms w at before next = heavier_arms (only_arm w (toward at before)) (only_arm w (toward at next))

-- the marker in a cell, or else what is drawn there
unfoldable pub mark_or : Option EndMark → ℕ → ℕ → Piece → Piece
mark_or None x y other = other
mark_or (Some m) x y other = cond (eqb m.x x && eqb m.y y) (Mark x y m.dir) other

-- the bend at a stop: "target wins"
unfoldable pub bend_piece : Weight → Option EndMark → Option EndMark → Point → Point → Point → Piece
bend_piece w target source at before next =
    mark_or target at.x at.y
    (mark_or source at.x at.y (Stroke at.x at.y (bend_arms w at before next)))

-- the bend at a leg's start: there is none at the source
unfoldable pub leg_bend_piece : Weight → Option EndMark → Option EndMark → PathLeg → Piece
leg_bend_piece w target source leg =
    cond leg.first Nothing (bend_piece w target source leg.from leg.before leg.to)

-- a leg's two pieces: the bend at its start, then its interior
unfoldable pub leg_pieces : Weight → Option EndMark → Option EndMark → PathLeg → List Piece
leg_pieces w target source leg = leg_bend_piece w target source leg ∷ leg_line target source leg ∷ []

-- leg k of the path: from stop k to the next, with the stop before it
unfoldable pub path_leg : List Point → ℕ → PathLeg
path_leg path k = record {
  before = stop_at path (k - 1);
  from = stop_at path k;
  to = stop_at path (k + 1);
  first = eqb k 0;
  last = eqb (k + 1) (leg_count path);
}

-- the pieces of a path through so many stops, leg by leg
unfoldable pub pieces_along : Edge → List Point → List Piece
pieces_along e path =
    each (numbers 0 (leg_count path)) (λ k. leg_pieces e.weight (target_mark e path) (source_mark e path) (path_leg path k))

-- the pieces of an edge with an Orthogonal path
abbrev pub orthogonal_pieces : Edge → List ℕ → List Piece
orthogonal_pieces e points = pieces_along e (stops e points)
