-- Request #112, of the text: "the columns of #101's text sum to the sheet's width in every row, what #101 writes for a stroke or marker cell counted as 1".
use Rattle.std.specs.Prelude.{ℕ, ◌+◌, List, [], ◌∷◌, length, get_or, take, drop, Option, None, Some}
use Rattle.ground.specs.Each.{each}
use Rattle.cell.specs.declared.Parts.{Parts}
use Rattle.cell.specs.declared.Parts.TheVariants.{Empty, Text, Continuation, Stroke, Marker}
use Rattle.cell.specs.OneCell.{read}
use Rattle.glyph.specs.Fitting.{columns_of}
use Rattle.shapes.specs.Shapes.{shape_of}
use Rattle.textback.specs.ReadBack.{lines_read}

-- the characters that a cell is written as: one, or none for a continuation
abbrev pub characters_for : Option ℕ → List ℕ
characters_for None = []
characters_for (Some ch) = ch ∷ []

unfoldable pub cell_characters : ℕ → List ℕ
cell_characters w = characters_for (shape_of (read w))

-- the characters of a row of cells
abbrev pub row_characters : List ℕ → List ℕ
row_characters row = each row cell_characters

-- line i of a text
abbrev pub line_at : List ℕ → ℕ → List ℕ
line_at bytes i = get_or (lines_read bytes) i []

-- the columns of characters that were written for a cell: "for a stroke or marker cell counted as 1", for any other by their widths
unfoldable pub counted : List ℕ → Parts → List ℕ → ℕ
counted ranges Empty characters = columns_of characters ranges
counted ranges (Text ch) characters = columns_of characters ranges
counted ranges Continuation characters = columns_of characters ranges
counted ranges (Stroke arms) characters = 1
counted ranges (Marker kind dir dashed) characters = 1

-- the columns of a line that was written for a row of cells: each cell's characters in turn, and what is left over by its widths
unfoldable pub line_columns : List ℕ → List ℕ → List ℕ → ℕ
line_columns ranges [] line = columns_of line ranges
line_columns ranges (w ∷ row) line =
    let n : ℕ = length (cell_characters w) in
    counted ranges (read w) (take n line) + line_columns ranges row (drop n line)
