-- Which characters stand in a picture: what request #105 of document 02 promises of them.
use Rattle.std.specs.Prelude.{ℕ, ◌<◌, List, ◌≡◌, get_or}
use Rattle.cell.specs.declared.Parts.{Parts}
use Rattle.cell.specs.OneCell.{read}
use Rattle.glyph.specs.Ranges.{Fixed}
use Rattle.layout.specs.Layout.{glyph_value}
use Rattle.layout.specs.Tables.{field, tables_of}

-- what stands at a column of a row of cells; a column past its end reads as empty
abbrev pub parts_at : List ℕ → ℕ → Parts
parts_at row x = read (get_or row x 0)

-- a character that an image may show
pub data Character (image : List ℕ) (ch : ℕ) : Type 0 where
  -- one of the four that painting itself writes: space, quote, opening and closing bracket
  written : Fixed ch → Character image ch
  -- glyph k of the image
  glyph : (k : ℕ) → k < (tables_of image).glyphs.count → ch ≡ field image (tables_of image).glyphs k glyph_value → Character image ch
