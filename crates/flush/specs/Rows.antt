-- For the proofs alone: one row of a window with the runs that waited (`flushWindow` of runs is these steps at each of its rows).
use Rattle.std.specs.Prelude.{ℕ, List}
use Rattle.rows.specs.declared.Window.{Window}
use Rattle.window.specs.Window.{row_start, part, on_row}
use Rattle.runs.specs.declared.Run.{Run}
use Rattle.runs.specs.Runs.{flush_cells, flush_colours}

unfoldable pub cells_at : Window → List ℕ → List Run → ℕ → List ℕ → List ℕ
cells_at v ranges runs y = on_row v y (flush_cells ranges runs y)

unfoldable pub colours_at : Window → List Run → List ℕ → ℕ → List ℕ → List ℕ
colours_at v runs stamps y = on_row v y (flush_colours runs y (part (row_start v y) v.width stamps))
