-- Painting at once: all things in the stated order over one window of rows. (`window-is-rows` of the theorems: it is the picture's rows side by side, for
-- the window of all rows as for any other.)
use Rattle.std.specs.Prelude.{ℕ, ◌*◌, List}
use Rattle.layout.specs.declared.Tables.{Tables}
use Rattle.rows.specs.declared.Window.{Window}
use Rattle.things.specs.Things.{ranges_of}
use Rattle.window.specs.Writes.{Write, Canvas, empty_canvas}
use Rattle.window.specs.Window.{ink_window}
use Rattle.runs.specs.Window.{flush_window}
use Rattle.picture.specs.Writes.{borders, edges, runs, placed_labels, nodes, subgraph_labels}

unfoldable pub window_painted : List ℕ → Tables → Window → Canvas → Canvas
window_painted image ts v empty =
    let bordered = ink (borders image ts) empty in
    let crossed = ink (edges image ts) bordered in
    let joined = flush_window v (ranges_of image ts) (runs image ts) crossed in
    let labelled = ink (placed_labels image ts) joined in
    let filled = ink (nodes image ts) labelled in
    ink (subgraph_labels image ts) filled
  where
    ink : List Write → Canvas → Canvas
    ink writes c = ink_window v (ranges_of image ts) writes c

-- the window before anything is painted
abbrev pub empty_window : Window → Canvas
empty_window v = empty_canvas (v.rows * v.width)
