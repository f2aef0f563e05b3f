-- "An element touches a row when it makes a stroke, marker, run or glyph .. there, columns disregarded." "The run count is the number of runs on rows of
-- the sheet."
use Rattle.std.specs.Prelude.{ℕ, Bool, List, ◌≡◌}
use Rattle.ground.specs.Each.{some}
use Rattle.image.specs.declared.Edge.{Edge}
use Rattle.rows.specs.declared.Window.{Window}
use Rattle.rows.specs.Window.{touched_rows}
use Rattle.flow.specs.declared.Reach.{Reach}
use Rattle.flow.specs.Pieces.{piece_touches, runs_in}
use Rattle.path.specs.Pieces.{pieces}

-- an edge makes a stroke, a marker or a run on row y
unfoldable pub edge_touches : Edge → List ℕ → ℕ → Bool
edge_touches e points y = some (pieces e points) (λ p. piece_touches e p y)

-- the runs of an edge on rows of a window
unfoldable pub edge_runs : Window → Edge → List ℕ → ℕ
edge_runs window e points = runs_in window (pieces e points)

-- the first and the last row of a window that an edge touches, and its runs there
pub record EdgeReached (window : Window) (e : Edge) (points : List ℕ) (reach : Reach) : Type 0 where
  pub rows : reach.rows ≡ touched_rows window (edge_touches e points)
  pub runs : reach.runs ≡ edge_runs window e points
