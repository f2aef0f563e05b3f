-- What a piece of an edge makes, as data: strokes and arrows at places of the sheet, and runs, which wait.
use Rattle.std.specs.Prelude.{ℕ, ◌+◌, Bool, false, cond, ◌||◌, List, [], ◌∷◌, map, eqb, Option, None, Some}
use Rattle.ground.specs.Each.{between}
use Rattle.cell.specs.declared.Arms.{Arms}
use Rattle.cell.specs.declared.MarkerKind.TheVariants as kind
use Rattle.cell.specs.OneCell.{horizontal, vertical}
use Rattle.image.specs.declared.Edge.{Edge}
use Rattle.rows.specs.declared.Window.{Window}
use Rattle.rows.specs.Spots.{stroke, marker, Ink, Spot, at, touches}
use Rattle.rows.specs.Window.{in_window}
use Rattle.flow.specs.declared.Head.{Head}
use Rattle.flow.specs.declared.Line.{Line}
use Rattle.flow.specs.declared.Piece.{Piece}
use Rattle.flow.specs.declared.Piece.TheVariants.{Nothing, Vertical, Horizontal, Run, Stroke, Mark}

-- a line's cell: an arrow where one is asked for there, "Reversed .. makes arrows dashed", or else a stroke

abbrev pub arrow_or : Bool → Option Head → ℕ → Ink → Ink
arrow_or dashed None n otherwise = otherwise
arrow_or dashed (Some h) n otherwise = cond (eqb h.place n) (marker kind.Arrow h.dir dashed) otherwise

abbrev pub line_ink : Bool → Line → Arms → ℕ → Ink
line_ink dashed l arms n = arrow_or dashed l.winner n (arrow_or dashed l.other n (stroke arms))

-- the strokes and arrows of a piece; "Runs wait"
unfoldable pub piece_spots : Edge → Piece → List Spot
piece_spots e Nothing = []
piece_spots e (Vertical l) = map (λ y. at l.lane y (line_ink e.reversed l (vertical e.weight) y)) (between l.from l.to)
piece_spots e (Horizontal l) = map (λ x. at x l.lane (line_ink e.reversed l (horizontal e.weight) x)) (between l.from l.to)
piece_spots e (Run row first last) = []
piece_spots e (Stroke x y arms) = at x y (stroke arms) ∷ []
piece_spots e (Mark x y dir) = at x y (marker kind.Arrow dir e.reversed) ∷ []

-- a piece is a run on this row
abbrev pub piece_run_on : ℕ → Piece → Bool
piece_run_on y Nothing = false
piece_run_on y (Vertical l) = false
piece_run_on y (Horizontal l) = false
piece_run_on y (Run row first last) = eqb row y
piece_run_on y (Stroke x row arms) = false
piece_run_on y (Mark x row dir) = false

-- "touches a row when it makes a stroke, marker, run .. there"; no piece makes a glyph, so that no width range matters
unfoldable pub piece_touches : Edge → Piece → ℕ → Bool
piece_touches e p y = touches [] (piece_spots e p) y || piece_run_on y p

-- "The run count is the number of runs on rows of the sheet": of a piece, and of many, in any window.

unfoldable pub piece_runs_in : Window → Piece → ℕ
piece_runs_in window Nothing = 0
piece_runs_in window (Vertical l) = 0
piece_runs_in window (Horizontal l) = 0
piece_runs_in window (Run row first last) = cond (in_window window row) 1 0
piece_runs_in window (Stroke x y arms) = 0
piece_runs_in window (Mark x y dir) = 0

unfoldable pub runs_in : Window → List Piece → ℕ
runs_in window [] = 0
runs_in window (p ∷ rest) = piece_runs_in window p + runs_in window rest
