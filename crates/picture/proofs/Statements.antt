-- What the theorems say, where it takes more than an equation.
use Prim.Native.Nat.{ℕ, ◌+◌, ◌*◌, ◌≤◌, ◌<◌}
use mathlib.Core.Bool.{true}
use mathlib.Core.List.{List, [], ◌∷◌, ◌++◌, map}
use mathlib.Core.Path.{◌≡◌}
use lib.ListN.{length, take, drop, replicate}
use Rattle.ground.specs.Each.{every}
use Rattle.ground.specs.Judged.{Judged, FirstBad}
use Rattle.layout.specs.Layout.{header_runs, header_elements}
use Rattle.layout.specs.Tables.{word, table_end, element_table}
use Rattle.rows.specs.declared.Window.{Window}
use Rattle.window.specs.Writes.{Canvas, canvas}
use Rattle.refusals.specs.FirstBroken.{Verdict, Passed, Refused}
use Rattle.refusals.specs.Rules.{checked}
use Rattle.picture.specs.Picture.{height, picture_cells, picture_colours}
use Rattle.picture.specs.Painted.{room, scratch_room, outside_sheet, too_little_room, Painted, painted, PaintedColoured, painted_coloured}

-- A window.

-- the cells and the colours of a canvas are the picture's, in the rows of a window
pub record IsRows (image : List ℕ) (v : Window) (c : Canvas) : Type 0 where
  pub cells : c.cells ≡ picture_cells image v.first v.rows
  pub colours : c.colours ≡ picture_colours image v.first v.rows

-- the window before anything is painted, without the planes of colours and stamps
abbrev pub plain_window : Window → Canvas
plain_window v = canvas (replicate (v.rows * v.width) 0) [] []

-- Bands.

-- how many rows bands of these heights have
unfoldable pub rows_of : List ℕ → ℕ
rows_of [] = 0
rows_of (rows ∷ rest) = rows + rows_of rest

-- what each of these bands has, one after the other from a first row on
unfoldable pub bands : (ℕ → ℕ → List ℕ) → ℕ → List ℕ → List ℕ
bands band first [] = []
bands band first (rows ∷ rest) = band first rows ++ bands band (first + rows) rest

-- Bands, each painted by a call of its own.

-- what is lent to one call
pub record OneBand : Type 0 where
  -- how many rows its band has
  pub rows : ℕ
  pub cells : List ℕ
  pub scratch : List ℕ

-- the same with colours
pub record OneColouredBand : Type 0 where
  pub rows : ℕ
  pub cells : List ℕ
  pub colours : List ℕ
  pub stamps : List ℕ
  pub scratch : List ℕ

-- it has the stated room

abbrev pub Roomy : List ℕ → OneBand → Type 0
Roomy image b = (room image b.rows ≤ length b.cells) × (scratch_room image ≤ length b.scratch)

abbrev pub RoomyColoured : List ℕ → OneColouredBand → Type 0
RoomyColoured image b =
    (room image b.rows ≤ length b.cells)
    × (room image b.rows ≤ length b.colours)
    × (room image b.rows ≤ length b.stamps)
    × (scratch_room image ≤ length b.scratch)

-- how many rows they have together

abbrev pub rows_lent : List OneBand → ℕ
rows_lent lent = rows_of (map (λ b. b.rows) lent)

abbrev pub coloured_rows_lent : List OneColouredBand → ℕ
coloured_rows_lent lent = rows_of (map (λ b. b.rows) lent)

-- what each leaves by its first row, one after the other
unfoldable pub in_turn : {A : Type 0} → (A → ℕ) → (ℕ → A → List ℕ) → ℕ → List A → List ℕ
in_turn rows left first [] = []
in_turn rows left first (b ∷ rest) = left first b ++ in_turn rows left (first + rows b) rest

-- the needed cells that `paint` leaves in bands one below the other, from a first row on
abbrev pub cells_left : List ℕ → ℕ → List OneBand → List ℕ
cells_left image first lent =
    in_turn (λ b. b.rows) (λ y b. take (room image b.rows) (painted image y b.rows b.cells b.scratch).cells) first lent

-- what `paint_coloured` leaves of one band
abbrev left_of : List ℕ → ℕ → OneColouredBand → PaintedColoured
left_of image y b = painted_coloured image y b.rows b.cells b.colours b.stamps b.scratch

-- the needed cells and the needed colours that it leaves in bands one below the other

abbrev pub coloured_cells_left : List ℕ → ℕ → List OneColouredBand → List ℕ
coloured_cells_left image first lent = in_turn (λ b. b.rows) (λ y b. take (room image b.rows) (left_of image y b).cells) first lent

abbrev pub colours_left : List ℕ → ℕ → List OneColouredBand → List ℕ
colours_left image first lent = in_turn (λ b. b.rows) (λ y b. take (room image b.rows) (left_of image y b).colours) first lent

-- Two images.

-- Two images that differ only in element list and run capacity: the same header but for the run capacity and the element count, the same tables before the
-- elements, and after them.
pub record OnlyListing (a b : List ℕ) : Type 0 where
  pub before : (i : ℕ) → i < (element_table a).start → (i ≡ header_runs → ⊥) → (i ≡ header_elements → ⊥) → word a i ≡ word b i
  pub after : drop (table_end (element_table a)) a ≡ drop (table_end (element_table b)) b

-- What paint answers and leaves.

-- A lent buffer afterwards: so many words that were needed, and all beyond as it was.
pub record Holds (n : ℕ) (words lent after : List ℕ) : Type 0 where
  pub needed : take n after ≡ words
  pub beyond : drop n after ≡ drop n lent

-- The verdict: what check refuses paint refuses, with that code and place; else a band that leaves the sheet is refused, else a buffer that is short.
pub record AsChecked (image : List ℕ) (first rows : ℕ) (lent : List Judged) (v : Verdict) : Type 0 where
  pub refused : ((checked image).code ≡ 0 → ⊥) → v ≡ Refused (checked image).code (checked image).place
  pub outside : (checked image).code ≡ 0 → height image < first + rows → v ≡ Refused outside_sheet 0
  pub short : (checked image).code ≡ 0 → first + rows ≤ height image → (place : ℕ) → FirstBad lent place → v ≡ Refused too_little_room place
  pub passed : (checked image).code ≡ 0 → first + rows ≤ height image → every lent (λ j. j.good) ≡ true → v ≡ Passed

-- paint passed, and left the band
pub record Band (image : List ℕ) (first rows : ℕ) (lent_cells lent_scratch : List ℕ) (r : Painted) : Type 0 where
  pub verdict : r.verdict ≡ Passed
  -- the needed cells are those rows of the whole picture
  pub cells :
      Holds (room image rows) (take (room image rows) (drop (room image first) (picture_cells image 0 (height image)))) lent_cells r.cells
  -- the needed scratch is zeros
  pub scratch : Holds (scratch_room image) (replicate (scratch_room image) 0) lent_scratch r.scratch

-- the same verdict, and if paint passes the same needed words
pub record SameBand (image : List ℕ) (rows : ℕ) (r s : Painted) : Type 0 where
  pub verdict : r.verdict ≡ s.verdict
  pub cells : r.verdict ≡ Passed → take (room image rows) r.cells ≡ take (room image rows) s.cells
  pub scratch : r.verdict ≡ Passed → take (scratch_room image) r.scratch ≡ take (scratch_room image) s.scratch

-- The same with colours.

-- every lent buffer is as it was
pub record AllKept (lent_cells lent_colours lent_stamps lent_scratch : List ℕ) (r : PaintedColoured) : Type 0 where
  pub cells : r.cells ≡ lent_cells
  pub colours : r.colours ≡ lent_colours
  pub stamps : r.stamps ≡ lent_stamps
  pub scratch : r.scratch ≡ lent_scratch

-- paint passed, and left the band with its colours
pub record ColouredBand (image : List ℕ) (first rows : ℕ) (lent_cells lent_colours lent_stamps lent_scratch : List ℕ) (r : PaintedColoured) : Type 0 where
  pub verdict : r.verdict ≡ Passed
  -- the needed cells and colours are those rows of the whole picture
  pub cells :
      Holds (room image rows) (take (room image rows) (drop (room image first) (picture_cells image 0 (height image)))) lent_cells r.cells
  pub colours :
      Holds (room image rows) (take (room image rows) (drop (room image first) (picture_colours image 0 (height image)))) lent_colours r.colours
  -- the needed stamps and scratch are zeros
  pub stamps : Holds (room image rows) (replicate (room image rows) 0) lent_stamps r.stamps
  pub scratch : Holds (scratch_room image) (replicate (scratch_room image) 0) lent_scratch r.scratch

-- the same verdict, and if paint passes the same needed words
pub record SameColouredBand (image : List ℕ) (rows : ℕ) (r s : PaintedColoured) : Type 0 where
  pub verdict : r.verdict ≡ s.verdict
  pub cells : r.verdict ≡ Passed → take (room image rows) r.cells ≡ take (room image rows) s.cells
  pub colours : r.verdict ≡ Passed → take (room image rows) r.colours ≡ take (room image rows) s.colours
  pub stamps : r.verdict ≡ Passed → take (room image rows) r.stamps ≡ take (room image rows) s.stamps
  pub scratch : r.verdict ≡ Passed → take (scratch_room image) r.scratch ≡ take (scratch_room image) s.scratch
