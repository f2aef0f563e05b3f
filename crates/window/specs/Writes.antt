-- A write: ink at a place of the sheet, with the colour and the stamp that go with it. What a list of writes leaves of one row of the sheet.
use Rattle.std.specs.Prelude.{ℕ, zero, suc, cond, List, [], ◌∷◌, map, eqb, set, replicate, Option, Some, None}
use Rattle.glyph.specs.Width.{width_of}
use Rattle.canvas.specs.Row.{stroke_row, marker_row, text_row}
use Rattle.rows.specs.Spots.{Ink, stroke, marker, glyph, Spot}
use Rattle.window.specs.declared.Tint.{Tint}

pub record Write : Type 0 where
  pub spot : Spot
  pub tint : Tint

abbrev pub write : Tint → Spot → Write
write tint spot = record { spot = spot; tint = tint }

-- spots written with one tint
abbrev pub tinted : Tint → List Spot → List Write
tinted tint spots = map (write tint) spots

-- which colour and which stamp: neither, a colour alone, or both

abbrev pub keep_tint : Tint
keep_tint = record { colour = None; stamp = None }

abbrev pub colour_tint : ℕ → Tint
colour_tint colour = record { colour = Some colour; stamp = None }

abbrev pub stamp_tint : ℕ → ℕ → Tint
stamp_tint colour number = record { colour = Some colour; stamp = Some number }

-- What a write changes of its row, in each plane.

unfoldable pub ink_on : List ℕ → ℕ → Ink → List ℕ → List ℕ
ink_on ranges x (stroke arms) row = stroke_row row ranges x arms
ink_on ranges x (marker kind dir dashed) row = marker_row row ranges x kind dir dashed
ink_on ranges x (glyph ch) row = text_row row ranges x ch

-- how many columns ink takes: both of a wide glyph, and none of a glyph of width 0
unfoldable pub columns_of : List ℕ → Ink → ℕ
columns_of ranges (stroke arms) = 1
columns_of ranges (marker kind dir dashed) = 1
columns_of ranges (glyph ch) = width_of ranges ch

-- a value in so many columns from x on; a column past the row's end is not written
unfoldable pub fill : ℕ → ℕ → ℕ → List ℕ → List ℕ
fill value x zero row = row
fill value x (suc more) row = fill value (suc x) more (set row x value)

unfoldable pub paint_on : Option ℕ → ℕ → ℕ → List ℕ → List ℕ
paint_on None x columns row = row
paint_on (Some value) x columns row = fill value x columns row

unfoldable pub ink_cells : List ℕ → Write → List ℕ → List ℕ
ink_cells ranges w row = ink_on ranges w.spot.x w.spot.ink row

-- "Colour is written even where the cell stays."

unfoldable pub ink_colours : List ℕ → Write → List ℕ → List ℕ
ink_colours ranges w row = paint_on w.tint.colour w.spot.x (columns_of ranges w.spot.ink) row

unfoldable pub ink_stamps : List ℕ → Write → List ℕ → List ℕ
ink_stamps ranges w row = paint_on w.tint.stamp w.spot.x (columns_of ranges w.spot.ink) row

-- A row of the sheet, or more of them: the cells, their colours, and which edge stamped them.

pub record Canvas : Type 0 where
  pub cells : List ℕ
  pub colours : List ℕ
  pub stamps : List ℕ

abbrev pub canvas : List ℕ → List ℕ → List ℕ → Canvas
canvas cells colours stamps = record { cells = cells; colours = colours; stamps = stamps }

-- "Empty cells and colour 0", "unstamped being 0": so many columns
abbrev pub empty_canvas : ℕ → Canvas
empty_canvas columns = canvas (replicate columns 0) (replicate columns 0) (replicate columns 0)

-- what those of some writes that fall on row y leave of it, in one plane
unfoldable pub row_after : (Write → List ℕ → List ℕ) → ℕ → List Write → List ℕ → List ℕ
row_after change y [] row = row
row_after change y (w ∷ rest) row = row_after change y rest (cond (eqb w.spot.y y) (change w row) row)

-- and in all three
unfoldable pub ink_row : List ℕ → ℕ → List Write → Canvas → Canvas
ink_row ranges y writes row = record {
  cells = row_after (ink_cells ranges) y writes row.cells;
  colours = row_after (ink_colours ranges) y writes row.colours;
  stamps = row_after (ink_stamps ranges) y writes row.stamps;
}
