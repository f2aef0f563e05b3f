-- A window of rows with the runs that waited: each of its rows by itself, as `flushRow` says.
use Rattle.std.specs.Prelude.{ℕ, List}
use Rattle.ground.specs.Turns.{turns}
use Rattle.rows.specs.declared.Window.{Window}
use Rattle.window.specs.Writes.{Canvas}
use Rattle.window.specs.Window.{row_start, part, on_row}
use Rattle.runs.specs.declared.Run.{Run}
use Rattle.runs.specs.Runs.{flush_cells, flush_colours}

unfoldable pub flush_window_cells : Window → List ℕ → List Run → List ℕ → List ℕ
flush_window_cells v ranges runs cells = turns (λ y. on_row v y (flush_cells ranges runs y)) v.first v.rows cells

unfoldable pub flush_window_colours : Window → List Run → List ℕ → List ℕ → List ℕ
flush_window_colours v runs stamps colours =
    turns (λ y. on_row v y (flush_colours runs y (part (row_start v y) v.width stamps))) v.first v.rows colours

unfoldable pub flush_window : Window → List ℕ → List Run → Canvas → Canvas
flush_window v ranges runs c = record {
  cells = flush_window_cells v ranges runs c.cells;
  colours = flush_window_colours v runs c.stamps c.colours;
  stamps = c.stamps;
}
