-- "Painting order": the picture of an image, row by row, from the image's words alone. The element list is never read.
use Rattle.std.specs.Prelude.{ℕ, List}
use Rattle.ground.specs.Each.{numbers, each}
use Rattle.layout.specs.declared.Tables.{Tables}
use Rattle.layout.specs.Layout.{header_width, header_height}
use Rattle.layout.specs.Tables.{word, tables_of}
use Rattle.things.specs.Things.{ranges_of}
use Rattle.window.specs.Writes.{Write, Canvas, empty_canvas, ink_row}
use Rattle.runs.specs.Runs.{flush_row}
use Rattle.picture.specs.Writes.{borders, edges, runs, placed_labels, nodes, subgraph_labels}

abbrev pub width : List ℕ → ℕ
width image = word image header_width

abbrev pub height : List ℕ → ℕ
height image = word image header_height

-- "Empty cells and colour 0; subgraph borders; edges; runs; placed labels; nodes; subgraph labels."
unfoldable pub row_painted : List ℕ → Tables → ℕ → Canvas
row_painted image ts y =
    let bordered = ink (borders image ts) (empty_canvas (width image)) in
    let crossed = ink (edges image ts) bordered in
    let joined = flush_row (ranges_of image ts) (runs image ts) y crossed in
    let labelled = ink (placed_labels image ts) joined in
    let filled = ink (nodes image ts) labelled in
    ink (subgraph_labels image ts) filled
  where
    ink : List Write → Canvas → Canvas
    ink writes row = ink_row (ranges_of image ts) y writes row

-- row y of the picture
abbrev pub picture_row : List ℕ → ℕ → Canvas
picture_row image y = row_painted image (tables_of image) y

-- the cells, and the colours, of so many rows from a first on

unfoldable pub picture_cells : List ℕ → ℕ → ℕ → List ℕ
picture_cells image first rows = each (numbers first rows) (λ y. (picture_row image y).cells)

unfoldable pub picture_colours : List ℕ → ℕ → ℕ → List ℕ
picture_colours image first rows = each (numbers first rows) (λ y. (picture_row image y).colours)
