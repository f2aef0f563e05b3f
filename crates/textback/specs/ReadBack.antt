-- "Reading the plain text back, columns counted, gives the same characters per column under the same widths, where no range covers a character that is
-- written for a stroke or marker."
use Rattle.std.specs.Prelude.{ℕ, zero, suc, ◌+◌, ◌≤◌, ◌<◌, cond, List, [], ◌∷◌, map, eqb, length, drop, Option, None, Some, Result, Ok, Err}
use Rattle.ground.specs.Each.{numbers, each}
use Rattle.cell.specs.declared.Parts.{Parts}
use Rattle.cell.specs.declared.Parts.TheVariants.{Empty, Text, Continuation, Stroke, Marker}
use Rattle.cell.specs.OneCell.{read}
use Rattle.glyph.specs.Width.{width_of, range_count, first_of, last_of}
use Rattle.sheettext.specs.declared.Glyph.{Glyph}
use Rattle.sheettext.specs.declared.GlyphError.{GlyphError}
use Rattle.sheettext.specs.Scalars.{decoded}
use Rattle.picture.specs.Characters.{parts_at}
use Rattle.picture.specs.Picture.{picture_row}
use Rattle.whole.specs.Whole.{ranges_in}
use Rattle.shapes.specs.Shapes.{stroke_shape, marker_shape, shape_of}
use Rattle.rowtext.specs.Text.{feed}

-- "Reading the plain text back": its characters, as `sheetmake` reads them. A byte that begins no character in UTF-8 reads as 110000, which is none of
-- Unicode's.

abbrev pub character_read : Result Glyph GlyphError → ℕ
character_read (Ok ch) = ch.value
character_read (Err _) = 0x110000

-- the bytes that it takes
abbrev pub bytes_read : Result Glyph GlyphError → ℕ
bytes_read (Ok ch) = ch.size
bytes_read (Err _) = 1

-- the characters of a text, at most so many
unfoldable pub characters_of : ℕ → List ℕ → List ℕ
characters_of zero bytes = []
characters_of (suc most) [] = []
characters_of (suc most) (byte ∷ rest) =
    character_read (decoded (byte ∷ rest)) ∷ characters_of most (drop (bytes_read (decoded (byte ∷ rest))) (byte ∷ rest))

-- a character before the first line
abbrev pub in_first : ℕ → List (List ℕ) → List (List ℕ)
in_first ch [] = (ch ∷ []) ∷ []
in_first ch (line ∷ lines) = (ch ∷ line) ∷ lines

-- characters in lines: each up to a line feed, which belongs to none
unfoldable pub in_lines : List ℕ → List (List ℕ)
in_lines [] = []
in_lines (ch ∷ rest) = cond (eqb ch feed) ([] ∷ in_lines rest) (in_first ch (in_lines rest))

-- the lines of a text
unfoldable pub lines_read : List ℕ → List (List ℕ)
lines_read bytes = in_lines (characters_of (length bytes) bytes)

-- "columns counted"

-- what a column holds
pub data Column : Type 0 where
  -- a character begins in it
  begins : ℕ → Column
  -- the wide character that begins in the column before goes on in it
  goes_on : Column

-- "under the same widths": the columns that a character fills
unfoldable pub filled_by : List ℕ → ℕ → List Column
filled_by ranges ch =
    cond (eqb (width_of ranges ch) 0) []
    (cond (eqb (width_of ranges ch) 2) (begins ch ∷ goes_on ∷ []) (begins ch ∷ []))

-- a text read back: for each of its lines the columns that its characters fill, one after the other
unfoldable pub read_back : List ℕ → List ℕ → List (List Column)
read_back ranges bytes = map (λ line. each line (filled_by ranges)) (lines_read bytes)

-- "the same characters per column": what is written for a cell stands in its column

abbrev pub cell_column : Option ℕ → Column
cell_column None = goes_on
cell_column (Some ch) = begins ch

-- the columns of a row of cells, one for each cell
abbrev pub row_columns : List ℕ → List Column
row_columns row = map (λ w. cell_column (shape_of (read w))) row

-- the columns of so many rows of the picture, from a first on
unfoldable pub picture_columns : List ℕ → ℕ → ℕ → List (List Column)
picture_columns image first rows = map (λ y. row_columns (picture_row image y).cells) (numbers first rows)

-- "where no range covers a character that is written for a stroke or marker"

abbrev pub Uncovered : List ℕ → ℕ → Type 0
Uncovered ranges ch = (k : ℕ) → k < range_count ranges → first_of ranges k ≤ ch → ch ≤ last_of ranges k → ⊥

unfoldable pub DrawnUncovered : List ℕ → Parts → Type 0
DrawnUncovered ranges Empty = Unit {0}
DrawnUncovered ranges (Text ch) = Unit {0}
DrawnUncovered ranges Continuation = Unit {0}
DrawnUncovered ranges (Stroke arms) = Uncovered ranges (stroke_shape arms)
DrawnUncovered ranges (Marker kind dir dashed) = Uncovered ranges (marker_shape kind dir)

-- of those that stand in a row
abbrev pub RowUncovered : List ℕ → List ℕ → Type 0
RowUncovered ranges row = (x : ℕ) → DrawnUncovered ranges (parts_at row x)

-- of those that stand in these rows of the picture, by the image's own ranges
abbrev pub PictureUncovered : List ℕ → ℕ → ℕ → Type 0
PictureUncovered image first rows = (y : ℕ) → first ≤ y → y < first + rows → RowUncovered (ranges_in image) (picture_row image y).cells
