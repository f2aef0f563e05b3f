-- What a thing makes is data: ink at places of the sheet. And "An element touches a row when it makes a stroke, marker, run or glyph of width 1 or 2
-- there, columns disregarded." (Runs are the path's to tell.)
use Rattle.std.specs.Prelude.{ℕ, Bool, true, ◌&&◌, List, ltb, eqb}
use Rattle.ground.specs.Each.{some}
use Rattle.cell.specs.declared.Arms.{Arms}
use Rattle.cell.specs.declared.Dir.{Dir}
use Rattle.cell.specs.declared.MarkerKind.{MarkerKind}
use Rattle.glyph.specs.Width.{width_of}

-- what is put on a cell
pub data Ink : Type 0 where
  -- arms and their weights
  stroke : Arms → Ink
  -- its kind, its direction, and whether it is dashed
  marker : MarkerKind → Dir → Bool → Ink
  -- a Unicode scalar value
  glyph : ℕ → Ink

-- ink at a place of the sheet
pub record Spot : Type 0 where
  pub x : ℕ
  pub y : ℕ
  pub ink : Ink

abbrev pub at : ℕ → ℕ → Ink → Spot
at x y ink = record { x = x; y = y; ink = ink }

-- "a stroke, marker .. or glyph of width 1 or 2", under these width ranges
unfoldable pub inks : List ℕ → Ink → Bool
inks ranges (stroke arms) = true
inks ranges (marker kind dir dashed) = true
inks ranges (glyph ch) = ltb 0 (width_of ranges ch)

abbrev pub spot_touches : List ℕ → ℕ → Spot → Bool
spot_touches ranges y spot = eqb spot.y y && inks ranges spot.ink

-- some spot of these is on row y and makes ink there
unfoldable pub touches : List ℕ → List Spot → ℕ → Bool
touches ranges spots y = some spots (spot_touches ranges y)
