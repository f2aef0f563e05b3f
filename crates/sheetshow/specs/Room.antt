-- What the lent buffers have room for, and what the call for a whole sheet says of them.
use Rattle.std.specs.Prelude.{ℕ, ◌+◌, ◌*◌, ◌≤◌, List, ◌≡◌, length}
use Rattle.layout.specs.Layout.{max_width, max_runs, max_elements}
use Rattle.refusals.specs.Accepted.{Keeps}
use Rattle.picture.specs.Picture.{width, height}
use Rattle.picture.specs.Painted.{too_little_room}
use Rattle.paint.specs.declared.Outcome.{Outcome}
use Rattle.rowtext.specs.Coloured.{coloured_room}

-- how many rows are written at a time
abbrev pub band_rows : ℕ
band_rows = 32

-- cells of the widest so many
abbrev pub band_cells : ℕ
band_cells = band_rows * max_width

-- the room of the widest so many as coloured text
abbrev pub band_bytes : ℕ
band_bytes = coloured_room max_width band_rows

-- the most scratch that a sheet can want
abbrev pub scratch_words : ℕ
scratch_words = 8 * max_runs + 2 * max_elements

-- what a code says of an image: 0 that its rows have room in the cells, 12 that it is accepted
pub record Answered (image cells : List ℕ) (answer : Outcome) : Type 0 where
  pub whole : answer.code ≡ 0 → (width image ≤ max_width) × (width image * height image ≤ length cells)
  pub accepted : answer.code ≡ too_little_room → Keeps image
