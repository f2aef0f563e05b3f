-- For the proofs alone: what a step of the sweep needs of the record and the lent buffers of a whole sheet, and what it leaves.
use Rattle.std.specs.Prelude.{ℕ, ◌+◌, ◌-◌, ◌≤◌, min, List, ◌++◌, ◌≡◌, length, take, drop, replicate}
use Rattle.layout.specs.Layout.{header_elements}
use Rattle.layout.specs.Tables.{word, tables_of}
use Rattle.elements.specs.Slots.{slot_count}
use Rattle.refusals.specs.Accepted.{Keeps}
use Rattle.window.specs.declared.Lent.{Lent}
use Rattle.window.specs.Window.{canvas_of}
use Rattle.picture.specs.Picture.{height, picture_cells, picture_colours}
use Rattle.picture.specs.Painted.{room, scratch_room}
use Rattle.compose.specs.Painting.{LentPlanes}
use Rattle.sweep.specs.declared.Sweep.{Sweep}
use Rattle.sweep.specs.Swept.{Swept}
use Rattle.bands.specs.Sheet.{sheet_room, sheet_scratch}

-- the needed parts of the lent buffers
pub record LentSheet (image : List ℕ) (lent : Lent) (cells colours stamps scratch : List ℕ) : Type 0 where
  pub lent_cells : length cells ≡ sheet_room image
  pub planes : LentPlanes (sheet_room image) lent colours stamps
  pub lent_scratch : length scratch ≡ sheet_scratch image

-- the words of the scratch after 01's: the active list
abbrev pub active_list : List ℕ → List ℕ → List ℕ
active_list image scratch = take (word image header_elements) (drop (scratch_room image) scratch)

-- a plane of the sheet with the rows of a band put in
abbrev pub in_band : List ℕ → ℕ → ℕ → List ℕ → List ℕ → List ℕ
in_band image top rows band plane = take (room image top) plane ++ (band ++ drop (room image rows) (drop (room image top) plane))

-- the planes with the band of so many rows from a row on, and no stamps in it
abbrev pub WithBand : List ℕ → Lent → ℕ → ℕ → List ℕ → List ℕ → List ℕ → List ℕ → List ℕ → List ℕ → Type 0
WithBand image lent top rows cells colours stamps cells' colours' stamps' =
    canvas_of lent cells' colours' stamps'
    ≡ canvas_of lent
    (in_band image top rows (picture_cells image top rows) cells)
    (in_band image top rows (picture_colours image top rows) colours)
    (in_band image top rows (replicate (room image rows) 0) stamps)

-- how many rows the band from a row on has
abbrev pub band_rows : List ℕ → ℕ → ℕ → ℕ
band_rows image band top = min band (height image - top)

-- before a step: the record as the start and the steps before left it, and no thing marked
pub record Steppable (image : List ℕ) (lent : Lent) (sweep : Sweep) (cells colours stamps scratch marks : List ℕ) : Type 0 where
  pub keeps : Keeps image
  pub inside : sweep.next ≤ height image
  pub lends : LentSheet image lent cells colours stamps scratch
  pub swept : Swept image (tables_of image) 0 sweep (active_list image scratch)
  pub unmarked : marks ≡ replicate slot_count 0

-- after it: the band is painted, and all else is as the next step needs it
pub record Stepped (image : List ℕ) (band : ℕ) (lent : Lent) (sweep : Sweep) (cells colours stamps : List ℕ) (after : Sweep) (cells' colours' stamps' scratch' marks' : List ℕ) : Type 0 where
  pub next : after.next ≡ sweep.next + band_rows image band sweep.next
  pub painted : WithBand image lent sweep.next (band_rows image band sweep.next) cells colours stamps cells' colours' stamps'
  pub swept : Swept image (tables_of image) 0 after (active_list image scratch')
  pub unmarked : marks' ≡ replicate slot_count 0

-- the first so many rows are painted
abbrev pub Done : List ℕ → Lent → ℕ → List ℕ → List ℕ → List ℕ → List ℕ → List ℕ → List ℕ → Type 0
Done image lent n cells₀ colours₀ stamps₀ cells colours stamps =
    canvas_of lent cells colours stamps
    ≡ canvas_of lent
    (picture_cells image 0 n ++ drop (room image n) cells₀)
    (picture_colours image 0 n ++ drop (room image n) colours₀)
    (replicate (room image n) 0 ++ drop (room image n) stamps₀)
