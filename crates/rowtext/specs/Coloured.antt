-- "The coloured form writes ECMA-48 sequences only where a written cell's colour changes, each row starting and ending at 0".
use Rattle.std.specs.Prelude.{ℕ, ◌+◌, ◌*◌, Bool, true, false, cond, List, [], ◌∷◌, ◌++◌, eqb, get_or, take, drop, Option, None, Some}
use Rattle.ground.specs.Each.{numbers, each}
use Rattle.cell.specs.OneCell.{read}
use Rattle.shapes.specs.Shapes.{shape_of}
use Rattle.utf8.specs.Utf8.{utf8}
use Rattle.sequence.specs.Sequence.{sequence}
use Rattle.rowtext.specs.Text.{feed}

-- from the colour in force to another
unfoldable pub change_to : ℕ → ℕ → List ℕ
change_to now colour = cond (eqb now colour) [] (sequence colour)

-- what is written of a cell with its colour; of a continuation nothing, whatever its colour
unfoldable pub shape_coloured : ℕ → ℕ → Option ℕ → List ℕ
shape_coloured now colour None = []
shape_coloured now colour (Some ch) = change_to now colour ++ utf8 ch

-- the colour that is then in force
unfoldable pub colour_after : ℕ → ℕ → Option ℕ → ℕ
colour_after now colour None = now
colour_after now colour (Some ch) = colour

-- cells and their colours from one in force on, to the end of their row: back to 0, and the line feed; a cell without a colour has colour 0
unfoldable pub coloured_from : ℕ → List ℕ → List ℕ → List ℕ
coloured_from now [] colours = change_to now 0 ++ (feed ∷ [])
coloured_from now (w ∷ row) colours =
    shape_coloured now (get_or colours 0 0) (shape_of (read w))
    ++ coloured_from (colour_after now (get_or colours 0 0) (shape_of (read w))) row (drop 1 colours)

-- the coloured text of a row of cells
abbrev pub coloured_row : List ℕ → List ℕ → List ℕ
coloured_row row colours = coloured_from 0 row colours

-- row r of a plane
abbrev pub row_at : ℕ → List ℕ → ℕ → List ℕ
row_at width plane r = take width (drop (width * r) plane)

-- the text of so many rows; where no colours are lent, it is the plain one
unfoldable pub band_text : ℕ → ℕ → List ℕ → List ℕ → List ℕ
band_text width rows cells colours = each (numbers 0 rows) (λ r. coloured_row (row_at width cells r) (row_at width colours r))

-- "a room stated in docs/": a sequence and a character for each cell, and a reset and a line feed for each row
abbrev pub coloured_room : ℕ → ℕ → ℕ
coloured_room width rows = rows * (23 * width + 5)

-- A coloured text without its sequences: the bytes that are in none. A sequence goes from an ESC, 1B, to an `m`, 6D.
unfoldable pub outside : Bool → List ℕ → List ℕ
outside inSequence [] = []
outside true (b ∷ rest) = cond (eqb b 0x6D) (outside false rest) (outside true rest)
outside false (b ∷ rest) = cond (eqb b 0x1B) (outside true rest) (b ∷ outside false rest)

abbrev pub without_sequences : List ℕ → List ℕ
without_sequences bytes = outside false bytes
