-- What the text of a band says: read back it gives what the picture shows, its columns are the sheet's, and without its sequences the coloured text is the
-- plain one.
use native.Mathlib.Omega.{arith}
use Prim.Native.Nat.{ℕ, ◌+◌, ◌<◌}
use mathlib.Core.Path.{◌≡◌, sym, ap, ◌∙◌}
use mathlib.Core.List.{List, [], ◌++◌, map, map-map}
use lib.ListN.{take}
use Rattle.ground.specs.Each.{numbers}
use Rattle.ground.proofs.Each.{each_numbers}
use Rattle.glyph.specs.Fitting.{columns_of}
use Rattle.refusals.specs.FirstBroken.{Passed}
use Rattle.refusals.specs.Rules.{checked}
use Rattle.refusals.proofs.Theorems.{accepted_widths}
use Rattle.picture.specs.Picture.{width, picture_row}
use Rattle.whole.specs.Whole.{ranges_in}
use Rattle.whole.proofs.Theorems.{wide_whole, wide_shown, columns_sum}
use Rattle.rowtext.specs.Coloured.{without_sequences}
use Rattle.painttext.specs.declared.Written.{Written}
use Rattle.painttext.specs.PaintedText.{picture_text, picture_coloured_text, text_verdict, text_coloured_verdict, TextPainted, TextPaintedColoured}
use Rattle.textback.specs.ReadBack.{lines_read, read_back, picture_columns, PictureUncovered}
use Rattle.textback.specs.Columns.{row_characters, line_at, line_columns}
use Rattle.textback.proofs.Numbers.{map_alike, map_at}
use Rattle.textback.proofs.Reading.{lines_back}
use Rattle.textback.proofs.Rows.{rows_text, row_clear, rows_plain, no_escape, row_filled, row_widths, row_counted}
use Rattle.textback.proofs.Legible.{picture_clear}
use Rattle.textback.proofs.Answers.{code_passed, passed_checked, text_left}

-- The lines of an accepted image's text are the characters of its rows.
pub text_lines :
    (image : List ℕ) → (checked image).code ≡ 0 → (first rows : ℕ) →
    lines_read (picture_text image first rows) ≡ map (λ y. row_characters (picture_row image y).cells) (numbers first rows)
unfolding picture_text
text_lines image accepted first rows =
    let row : ℕ → List ℕ = λ y. (picture_row image y).cells in
    ap lines_read (sym (rows_text row (numbers first rows)))
    ∙ lines_back (λ y. row_characters (row y)) (λ y. row_clear (row y) (picture_clear image accepted y)) (numbers first rows)

-- "Reading the plain text back, columns counted, gives the same characters per column under the same widths, where no range covers a character that is
-- written for a stroke or marker": of every accepted image, any rows.
pub accepted_text_back :
    (image : List ℕ) → (checked image).code ≡ 0 → (first rows : ℕ) → PictureUncovered image first rows →
    read_back (ranges_in image) (picture_text image first rows) ≡ picture_columns image first rows
unfolding read_back picture_columns
accepted_text_back image accepted first rows uncovered =
    let ranges = ranges_in image in
    rw (text_lines image accepted first rows)
    (map-map _ _ (numbers first rows)
    ∙ map_alike _ _ first rows
    (λ y p q. row_filled ranges (accepted_widths image accepted) (picture_row image y).cells
    (wide_whole image accepted y) (wide_shown image accepted y) (uncovered y p q)))

-- Line i of the text is that of row i.
line_of :
    (image : List ℕ) → (checked image).code ≡ 0 → (first rows i : ℕ) → i < rows →
    line_at (picture_text image first rows) i ≡ row_characters (picture_row image (first + i)).cells
line_of image accepted first rows i h = rw (text_lines image accepted first rows) (map_at _ [] i first rows h)

-- Request #112: "the columns of #101's text sum to the sheet's width in every row, what #101 writes for a stroke or marker cell counted as 1".
pub text_columns :
    (image : List ℕ) → (checked image).code ≡ 0 → (first rows i : ℕ) → i < rows →
    line_columns (ranges_in image) (picture_row image (first + i)).cells (line_at (picture_text image first rows) i) ≡ width image
text_columns image accepted first rows i h =
    rw (line_of image accepted first rows i h) (row_counted (ranges_in image) (picture_row image (first + i)).cells ∙ columns_sum image accepted (first + i))

-- Where no range covers what is written for a stroke or marker, they are the widths of the line's characters.
pub text_widths :
    (image : List ℕ) → (checked image).code ≡ 0 → (first rows i : ℕ) → i < rows → PictureUncovered image first rows →
    columns_of (line_at (picture_text image first rows) i) (ranges_in image) ≡ width image
text_widths image accepted first rows i h uncovered =
    rw (line_of image accepted first rows i h)
    (row_widths (ranges_in image) (accepted_widths image accepted) (picture_row image (first + i)).cells (uncovered (first + i) (omega arith) (omega arith))
    ∙ columns_sum image accepted (first + i))

-- Without its sequences the coloured text of an accepted image is the plain one.
pub plain_of_coloured :
    (image : List ℕ) → (checked image).code ≡ 0 → (first rows : ℕ) →
    without_sequences (picture_coloured_text image first rows) ≡ picture_text image first rows
unfolding picture_text picture_coloured_text
plain_of_coloured image accepted first rows =
    rows_plain (λ y. (picture_row image y).cells) (λ y. (picture_row image y).colours)
    (λ y. no_escape (picture_row image y).cells (picture_clear image accepted y)) (numbers first rows)

-- The texts of two bands, one after the other, are the text of both.

pub text_join :
    (image : List ℕ) (first n m : ℕ) →
    picture_text image first (n + m) ≡ picture_text image first n ++ picture_text image (first + n) m
unfolding picture_text
text_join image first n m = each_numbers _ first n m

pub coloured_text_join :
    (image : List ℕ) (first n m : ℕ) →
    picture_coloured_text image first (n + m) ≡ picture_coloured_text image first n ++ picture_coloured_text image (first + n) m
unfolding picture_coloured_text
coloured_text_join image first n m = each_numbers _ first n m

-- What `paint_text` leaves in the output, where it answers code 0.
module _
    (image : List ℕ) (first rows : ℕ) (cells scratch out : List ℕ) (answer : Written) (cells' scratch' out' : List ℕ)
    (painted : TextPainted image first rows cells scratch out answer cells' scratch' out') (done : answer.code ≡ 0) where
  passed : text_verdict image first rows cells scratch out ≡ Passed
  passed = code_passed image first rows _ _ out _ (sym (ap (λ (a : Written). a.code) painted.answered) ∙ done)

  accepted_painted : (checked image).code ≡ 0
  accepted_painted = passed_checked image first rows _ _ out passed

  -- The bytes that it counts are the text of these rows of the picture.
  pub text_painted : take answer.bytes out' ≡ picture_text image first rows
  text_painted = text_left _ _ out out' answer passed painted.answered painted.in_out

  -- Read back they give what the picture shows.
  pub text_back_painted : PictureUncovered image first rows → read_back (ranges_in image) (take answer.bytes out') ≡ picture_columns image first rows
  text_back_painted uncovered = rw text_painted (accepted_text_back image accepted_painted first rows uncovered)

  -- And their columns sum to the sheet's width in every row.
  pub text_columns_painted :
      (i : ℕ) → i < rows → line_columns (ranges_in image) (picture_row image (first + i)).cells (line_at (take answer.bytes out') i) ≡ width image
  text_columns_painted i h = rw text_painted (text_columns image accepted_painted first rows i h)

-- What `paint_text_coloured` leaves in the output, where it answers code 0.
module _
    (image : List ℕ) (first rows : ℕ) (cells colours stamps scratch out : List ℕ) (answer : Written) (cells' colours' stamps' scratch' out' : List ℕ)
    (painted : TextPaintedColoured image first rows cells colours stamps scratch out answer cells' colours' stamps' scratch' out')
    (done : answer.code ≡ 0) where
  passed_coloured : text_coloured_verdict image first rows cells colours stamps scratch out ≡ Passed
  passed_coloured = code_passed image first rows _ _ out _ (sym (ap (λ (a : Written). a.code) painted.answered) ∙ done)

  -- The bytes that it counts are the coloured text of these rows of the picture.
  pub coloured_text_painted : take answer.bytes out' ≡ picture_coloured_text image first rows
  coloured_text_painted = text_left _ _ out out' answer passed_coloured painted.answered painted.in_out

  -- Without their sequences they are the plain text.
  pub plain_of_coloured_painted : without_sequences (take answer.bytes out') ≡ picture_text image first rows
  plain_of_coloured_painted =
      rw coloured_text_painted (plain_of_coloured image (passed_checked image first rows _ _ out passed_coloured) first rows)
