-- "A continuation writes nothing, empty writes a space, each row ends in one line feed."
use Rattle.std.specs.Prelude.{ℕ, ◌+◌, ◌*◌, List, [], ◌∷◌, ◌++◌, Option, None, Some}
use Rattle.ground.specs.Each.{each}
use Rattle.cell.specs.OneCell.{read}
use Rattle.shapes.specs.Shapes.{shape_of}
use Rattle.utf8.specs.Utf8.{utf8}

-- a line feed, U+000A
abbrev pub feed : ℕ
feed = 0x0A

-- the bytes of what a cell is written as
unfoldable pub shape_text : Option ℕ → List ℕ
shape_text None = []
shape_text (Some ch) = utf8 ch

unfoldable pub cell_text : ℕ → List ℕ
cell_text w = shape_text (shape_of (read w))

-- the plain text of a row of cells
unfoldable pub row_text : List ℕ → List ℕ
row_text row = each row cell_text ++ (feed ∷ [])

-- "rows × (4 × width + 1) bytes"
abbrev pub text_room : ℕ → ℕ → ℕ
text_room width rows = rows * (4 * width + 1)
