-- For the proofs alone: what drawing pieces of an edge leaves of the lent planes, and of the runs that are kept in the scratch.
use Rattle.std.specs.Prelude.{ℕ, ◌+◌, ◌≤◌, ◌<◌, false, List, [], ◌≡◌, None}
use Rattle.ground.specs.Each.{each, some}
use Rattle.image.specs.declared.Edge.{Edge}
use Rattle.image.specs.declared.FlowAxis.TheVariants as axis
use Rattle.image.specs.declared.Path.TheVariants as path
use Rattle.rows.specs.declared.Window.{Window}
use Rattle.flow.specs.declared.Piece.{Piece}
use Rattle.flow.specs.declared.Piece.TheVariants.{Nothing, Vertical, Horizontal, Run, Stroke, Mark}
use Rattle.flow.specs.Pieces.{piece_spots, piece_touches}
use Rattle.window.specs.declared.Lent.{Lent}
use Rattle.window.specs.Writes.{Write, Canvas, tinted, stamp_tint}
use Rattle.window.specs.Window.{ink_window, canvas_of, Ready}
use Rattle.runs.specs.declared.Run as waiting
use Rattle.runs.specs.Pieces.{piece_runs}
use Rattle.runs.specs.Kept.{run_room, Kept, runs_within}
use Rattle.draw.specs.declared.Pen.{Pen}

-- the pen for an edge with this number
abbrev pub pen_of : Lent → Window → ℕ → Edge → Pen
pen_of lent window number e =
    record { lent = lent; window = window; number = number; colour = e.colour; weight = e.weight; dashed = e.reversed }

-- an edge that such a pen is for: the ink of a piece depends on nothing else of it
abbrev pub edge_of : Pen → Edge
edge_of pen = record {
  from_x = 0;
  from_y = 0;
  to_x = 0;
  to_y = 0;
  path = path.Direct;
  flow_axis = axis.Y;
  reversed = pen.dashed;
  start_marker = false;
  end_marker = false;
  weight = pen.weight;
  label = None;
  colour = pen.colour;
  label_colour = 0;
}

-- "Strokes and markers of an edge write its colour and stamp its index + 1": the writes of pieces
abbrev pub pieces_writes : Pen → List Piece → List Write
pieces_writes pen pieces = tinted (stamp_tint pen.colour pen.number) (each pieces (piece_spots (edge_of pen)))

-- their runs
abbrev pub pieces_runs : Pen → List Piece → List waiting.Run
pieces_runs pen pieces = each pieces (piece_runs (edge_of pen) pen.number)

-- these pieces, none of which is a run, are drawn in the pen's window
pub record Inked (pen : Pen) (ranges : List ℕ) (pieces : List Piece) (before after : Canvas) : Type 0 where
  pub inked : after ≡ ink_window pen.window ranges (pieces_writes pen pieces) before
  pub runless : pieces_runs pen pieces ≡ []

-- the lent planes, the scratch, and how many runs are kept in it
pub record Drawing : Type 0 where
  pub canvas : Canvas
  pub scratch : List ℕ
  pub kept : ℕ

abbrev pub drawing : Pen → List ℕ → List ℕ → List ℕ → List ℕ → ℕ → Drawing
drawing pen cells colours stamps scratch kept =
    record { canvas = canvas_of pen.lent cells colours stamps; scratch = scratch; kept = kept }

-- these pieces are drawn in the pen's window, and their runs on its rows are kept
pub record Drawn (pen : Pen) (ranges : List ℕ) (pieces : List Piece) (before after : Drawing) : Type 0 where
  pub inked : after.canvas ≡ ink_window pen.window ranges (pieces_writes pen pieces) before.canvas
  pub runs : Kept before.scratch before.kept (runs_within pen.window (pieces_runs pen pieces)) after.scratch after.kept

-- what drawing needs: the planes have room, and no more runs are kept than the scratch has room for
pub record Drawable (pen : Pen) (cells colours stamps scratch : List ℕ) (kept : ℕ) : Type 0 where
  pub ready : Ready pen.lent pen.window cells colours stamps
  pub room : kept ≤ run_room scratch

-- nothing or a line
unfoldable pub LinePiece : Piece → Type 0
LinePiece Nothing = Unit {0}
LinePiece (Vertical l) = Unit {0}
LinePiece (Horizontal l) = Unit {0}
LinePiece (Run row first last) = ⊥
LinePiece (Stroke x y arms) = ⊥
LinePiece (Mark x y dir) = ⊥

-- nothing, one stroke or one arrow
unfoldable pub CellPiece : Piece → Type 0
CellPiece Nothing = Unit {0}
CellPiece (Vertical l) = ⊥
CellPiece (Horizontal l) = ⊥
CellPiece (Run row first last) = ⊥
CellPiece (Stroke x y arms) = Unit {0}
CellPiece (Mark x y dir) = Unit {0}

-- nothing or a run, whose columns are words
unfoldable pub RunPiece : Piece → Type 0
RunPiece Nothing = Unit {0}
RunPiece (Vertical l) = ⊥
RunPiece (Horizontal l) = ⊥
RunPiece (Run row first last) = (first < 0x100000000) × (last < 0x100000000)
RunPiece (Stroke x y arms) = ⊥
RunPiece (Mark x y dir) = ⊥

-- none of these pieces touches a row of the window
abbrev pub NoRow : Window → Edge → List Piece → Type 0
NoRow v e ps = (y : ℕ) → v.first ≤ y → y < v.first + v.rows → some ps (λ p. piece_touches e p y) ≡ false
