-- The wide characters of a picture are whole, and each of its rows is written in as many columns as the sheet has.
use Prim.Native.Nat.{ℕ, ◌+◌, ◌≤◌, ◌<◌}
use mathlib.Core.Bool.{cond}
use mathlib.Core.List.{List}
use mathlib.Core.Path.{◌≡◌, ◌∙◌}
use lib.ListN.{get_or, take, replicate}
use Rattle.glyph.specs.Width.{width_of}
use Rattle.glyph.specs.Ranges as fixed
use Rattle.layout.specs.Tables.{tables_of}
use Rattle.canvas.specs.Row.{space, is_continuation}
use Rattle.canvas.proofs.Kept.{CodePoint, AnyStroke, KeptByInk}
use Rattle.refusals.specs.FirstBroken.{Passed}
use Rattle.refusals.specs.Rules.{checked}
use Rattle.refusals.proofs.Theorems.{accepted_iff, accepted_widths}
use Rattle.picture.specs.Picture.{width, picture_row}
use Rattle.picture.specs.Painted.{painted, painted_coloured}
use Rattle.picture.proofs.Laws.{row_width}
use Rattle.picture.proofs.Cells.{glyph_size_lem, CodePoints, code_points, fixed_code_point, row_has}
use Rattle.picture.proofs.Answers.{passed_accepted, row_of_band}
use Rattle.picture.proofs.Theorems.{paint_refuses_as_check, paint_refuses_as_check_coloured}
use Rattle.whole.specs.Whole.{ranges_in, Whole, Shown, columns_of_cells, band_row}
use Rattle.whole.proofs.Rows.{whole_of, PackedPairs, empty_pairs, pairs_kept, AllTakeColumns, empty_takes, takes_kept, shown_of}
use Rattle.whole.proofs.Columns.{columns_before, columns_all}

-- Any image, accepted or not, whose glyphs are code points and whose ranges give the space width 1.

-- what all ink keeps, and an empty row has, each row of its picture has
row_of_ink :
    (image : List ℕ) → CodePoints image → (P : List ℕ → Type 0) →
    KeptByInk (ranges_in image) AnyStroke CodePoint P → P (replicate (width image) 0) → (y : ℕ) → P (picture_row image y).cells
row_of_ink image good P keeps empty y = row_has CodePoint fixed_code_point image (tables_of image) (glyph_size_lem image) good P keeps empty y

-- Its wide characters are whole in every row of its picture.
pub wide_whole_of :
    (image : List ℕ) → CodePoints image → width_of (ranges_in image) space ≡ 1 →
    (y : ℕ) → Whole (ranges_in image) (picture_row image y).cells
wide_whole_of image good narrow y =
    let ranges = ranges_in image in
    whole_of ranges (picture_row image y).cells
    (row_of_ink image good (PackedPairs ranges) (pairs_kept ranges narrow) (empty_pairs ranges (width image)) y).paired

-- Every character in such a row has width 1 or 2.
pub wide_shown_of :
    (image : List ℕ) → CodePoints image → width_of (ranges_in image) space ≡ 1 →
    (y : ℕ) → Shown (ranges_in image) (picture_row image y).cells
wide_shown_of image good narrow y =
    let ranges = ranges_in image in
    shown_of ranges narrow (picture_row image y).cells
    (row_of_ink image good (AllTakeColumns ranges) (takes_kept ranges narrow) (empty_takes ranges narrow (width image)) y)

-- An accepted image is such an image.

own_code_points : (image : List ℕ) → (checked image).code ≡ 0 → CodePoints image
own_code_points image accepted = code_points image ((accepted_iff image).0 accepted)

narrow_space : (image : List ℕ) → (checked image).code ≡ 0 → width_of (ranges_in image) space ≡ 1
narrow_space image accepted = (accepted_widths image accepted).fixed space fixed.space

-- In each row of an accepted image's picture every wide lead is followed by a continuation, every continuation stands just after a wide lead, and no wide
-- lead is in the last column.
pub wide_whole :
    (image : List ℕ) → (checked image).code ≡ 0 →
    (y : ℕ) → Whole (ranges_in image) (picture_row image y).cells
wide_whole image accepted y = wide_whole_of image (own_code_points image accepted) (narrow_space image accepted) y

-- Every character in such a row has width 1 or 2.
pub wide_shown :
    (image : List ℕ) → (checked image).code ≡ 0 →
    (y : ℕ) → Shown (ranges_in image) (picture_row image y).cells
wide_shown image accepted y = wide_shown_of image (own_code_points image accepted) (narrow_space image accepted) y

-- So the columns of what is written for its cells sum to the sheet's width.
pub columns_sum :
    (image : List ℕ) → (checked image).code ≡ 0 →
    (y : ℕ) → columns_of_cells (ranges_in image) (picture_row image y).cells ≡ width image
columns_sum image accepted y =
    columns_all (ranges_in image) (narrow_space image accepted) (picture_row image y).cells (wide_whole image accepted y) (wide_shown image accepted y)
    ∙ row_width image y

-- And what is written for a cell begins in that cell's column: what is written before it takes as many columns, one more before a continuation.
pub columns_until :
    (image : List ℕ) → (checked image).code ≡ 0 →
    (y x : ℕ) → x ≤ width image →
    columns_of_cells (ranges_in image) (take x (picture_row image y).cells) ≡ x + cond (is_continuation (get_or (picture_row image y).cells x 0)) 1 0
columns_until image accepted y x h =
    columns_before (ranges_in image) (narrow_space image accepted) (picture_row image y).cells (wide_whole image accepted y) (wide_shown image accepted y)
    x (rw (row_width image y) h)

-- So no half character is in what painting leaves.

-- where it passes, the image is accepted, and row i of the band is a row of its picture
module _ (image : List ℕ) (first rows : ℕ) (cells scratch : List ℕ) (passed : (painted image first rows cells scratch).verdict ≡ Passed) where
  pub accepted_plain : (checked image).code ≡ 0
  accepted_plain = passed_accepted image first rows _ _ (paint_refuses_as_check image first rows cells scratch) passed

  pub row_plain : (i : ℕ) → i < rows → band_row image i (painted image first rows cells scratch).cells ≡ (picture_row image (first + i)).cells
  unfolding painted
  row_plain i h = row_of_band image first rows i _ cells passed h

-- Where painting passes, wide characters are whole in each row of the band.
pub band_whole :
    (image : List ℕ) (first rows : ℕ) (cells scratch : List ℕ) →
    (painted image first rows cells scratch).verdict ≡ Passed →
    (i : ℕ) → i < rows → Whole (ranges_in image) (band_row image i (painted image first rows cells scratch).cells)
band_whole image first rows cells scratch passed i h =
    rw (row_plain image first rows cells scratch passed i h)
    (wide_whole image (accepted_plain image first rows cells scratch passed) (first + i))

-- And the columns of each row sum to the sheet's width.
pub band_columns :
    (image : List ℕ) (first rows : ℕ) (cells scratch : List ℕ) →
    (painted image first rows cells scratch).verdict ≡ Passed →
    (i : ℕ) → i < rows → columns_of_cells (ranges_in image) (band_row image i (painted image first rows cells scratch).cells) ≡ width image
band_columns image first rows cells scratch passed i h =
    rw (row_plain image first rows cells scratch passed i h)
    (columns_sum image (accepted_plain image first rows cells scratch passed) (first + i))

-- The same of painting with colours.

module _ (image : List ℕ) (first rows : ℕ) (cells colours stamps scratch : List ℕ)
    (passed : (painted_coloured image first rows cells colours stamps scratch).verdict ≡ Passed) where
  pub accepted_coloured : (checked image).code ≡ 0
  accepted_coloured = passed_accepted image first rows _ _ (paint_refuses_as_check_coloured image first rows cells colours stamps scratch) passed

  pub row_coloured : (i : ℕ) → i < rows → band_row image i (painted_coloured image first rows cells colours stamps scratch).cells ≡ (picture_row image (first + i)).cells
  unfolding painted_coloured
  row_coloured i h = row_of_band image first rows i _ cells passed h

-- Where it passes, wide characters are whole in each row of the band.
pub band_whole_coloured :
    (image : List ℕ) (first rows : ℕ) (cells colours stamps scratch : List ℕ) →
    (painted_coloured image first rows cells colours stamps scratch).verdict ≡ Passed →
    (i : ℕ) → i < rows → Whole (ranges_in image) (band_row image i (painted_coloured image first rows cells colours stamps scratch).cells)
band_whole_coloured image first rows cells colours stamps scratch passed i h =
    rw (row_coloured image first rows cells colours stamps scratch passed i h)
    (wide_whole image (accepted_coloured image first rows cells colours stamps scratch passed) (first + i))

-- And the columns of each row sum to the sheet's width.
pub band_columns_coloured :
    (image : List ℕ) (first rows : ℕ) (cells colours stamps scratch : List ℕ) →
    (painted_coloured image first rows cells colours stamps scratch).verdict ≡ Passed →
    (i : ℕ) → i < rows →
    columns_of_cells (ranges_in image) (band_row image i (painted_coloured image first rows cells colours stamps scratch).cells) ≡ width image
band_columns_coloured image first rows cells colours stamps scratch passed i h =
    rw (row_coloured image first rows cells colours stamps scratch passed i h)
    (columns_sum image (accepted_coloured image first rows cells colours stamps scratch passed) (first + i))
