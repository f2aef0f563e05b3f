-- What an image keeps that is accepted: each rule of "Refusals in order" with its quantifiers, in the table's order.
use Rattle.std.specs.Prelude.{ℕ, ◌≤◌, ◌<◌, List, ◌≡◌, length}
use Rattle.glyph.specs.Ranges.{RangeGood}
use Rattle.layout.specs.declared.Tables.{Tables}
use Rattle.layout.specs.Layout.{header_size, header_runs}
use Rattle.layout.specs.Tables.{word, tables_of, wanted_length}
use Rattle.image.specs.Records.{edge_at}
use Rattle.header.specs.Header.{HeaderGood}
use Rattle.fields.specs.Good.{RecordsGood}
use Rattle.elements.specs.Elements.{Once, Ordered}
use Rattle.things.specs.Things.{ranges_of, edge_points, run_count}
use Rattle.controls.specs.Controls.{NoControls}
use Rattle.corners.specs.Corners.{CornersAbove}
use Rattle.listing.specs.Listing.{AllListed}

-- the rules about records and the list, for an image whose tables are these
pub record KeepsTables (image : List ℕ) (ts : Tables) : Type 0 where
  -- 4: no "record field breaks its rule"; no "index or start + count leaves its table"
  pub fields : RecordsGood image ts
  -- 5: no range "has first > last, first not above the last before it, or holds 0020, 0022, 005B or 005D"
  pub ranges : (k : ℕ) → k < ts.ranges.count → RangeGood (ranges_of image ts) k
  -- 13: no glyph is one of "0000 to 001F and 007F to 009F"
  pub characters : NoControls image ts.glyphs
  -- 6: no "MultiSegment corner lies below 0"
  pub corners : (k : ℕ) → k < ts.edges.count → CornersAbove (edge_at image ts.edges k) (edge_points image ts k)
  -- 7: no "element names one already listed"
  pub once : Once image ts
  -- 8: no "first row > last row, or first row below the previous element's"
  pub order : Ordered image ts
  -- 9: no thing "touches a sheet row that its listing lacks"
  pub listed : AllListed image ts
  -- 10: run capacity is not "below the run count"
  pub runs : run_count image ts ≤ word image header_runs

pub record Keeps (image : List ℕ) : Type 0 where
  -- 1: not "under 12 words"
  pub long : header_size ≤ length image
  -- 2: no "header number over its limit or spare bit set"
  pub header : HeaderGood image
  -- 3: length is "header plus tables"
  pub whole : length image ≡ wanted_length image
  pub tables : KeepsTables image (tables_of image)
