-- A row of cells and its text: the bytes are its characters in UTF-8, the characters fill the columns of its cells, and take as many columns.
use native.Mathlib.Omega.{arith}
use Prim.Native.Nat.{ℕ, suc, ◌+◌, ◌≤◌, ◌<◌}
use mathlib.Core.Path.{◌≡◌, refl, sym, ap, ◌∙◌}
use mathlib.Core.Bool.{Bool, true, false, cond}
use mathlib.Core.List.{List, [], ◌∷◌, ◌++◌, append_assoc, append-nil}
use lib.Dec.{eqb}
use lib.ListN.{length}
use lib.Seq.{take_at, drop_at}
use borrow.Author.Tests.{le-leb, leb-true}
use Rattle.ground.specs.Each.{each, every}
use Rattle.ground.proofs.Order.{by_order}
use Rattle.ground.proofs.Each.{and_right, and_both, each_append, every_append}
use Rattle.cell.specs.declared.Parts.{Parts}
use Rattle.cell.specs.declared.Parts.TheVariants.{Empty, Text, Continuation, Stroke, Marker}
use Rattle.cell.specs.OneCell.{read}
use Rattle.glyph.specs.Width.{width_of}
use Rattle.glyph.specs.Fitting.{columns_of}
use Rattle.glyph.specs.Ranges.{WidthsRight}
use Rattle.glyph.specs.Ranges as fixed
use Rattle.canvas.specs.Row.{space, lead_parts, continuation_parts, is_wide_lead, is_continuation}
use Rattle.picture.specs.Characters.{parts_at}
use Rattle.whole.specs.Whole.{Whole, Shown, columns_of_cells}
use Rattle.whole.specs.Whole as whole
use Rattle.whole.proofs.Pairs.{lead}
use Rattle.whole.proofs.Columns.{PairedFrom, from_start, from_next}
use Rattle.sheettext.specs.Scalars.{is_scalar}
use Rattle.sheettext.proofs.Scalars.{below_surrogates}
use Rattle.std.specs.Prelude.{Option, None, Some}
use Rattle.shapes.specs.Shapes.{stroke_shape, marker_shape, shape_of}
use Rattle.shapes.proofs.Laws.{stroke_bound, marker_bound}
use Rattle.utf8.specs.Utf8.{utf8}
use Rattle.rowtext.specs.Text.{feed, shape_text, cell_text, row_text}
use Rattle.rowtext.specs.Coloured.{coloured_row, outside, without_sequences}
use Rattle.rowtext.proofs.Theorems.{NoEscape, plain_of_coloured_row}
use Rattle.textback.specs.ReadBack.{Column, begins, goes_on, filled_by, cell_column, row_columns, DrawnUncovered, RowUncovered}
use Rattle.textback.specs.Columns.{characters_for, cell_characters, row_characters, counted, line_columns}
use Rattle.textback.proofs.Reading.{clear, ended}

-- The bytes.

shape_text_lem : (s : Option ℕ) → each (characters_for s) utf8 ≡ shape_text s
unfolding each shape_text
shape_text_lem None = refl
shape_text_lem (Some ch) = append-nil (utf8 ch)

cells_text : (row : List ℕ) → each (row_characters row) utf8 ≡ each row cell_text
unfolding each cell_text cell_characters
cells_text [] = refl
cells_text (w ∷ row) = each_append utf8 (cell_characters w) (row_characters row) ∙ rw (shape_text_lem (shape_of (read w)), cells_text row)

row_text_lem : (row : List ℕ) → each (ended (row_characters row)) utf8 ≡ row_text row
unfolding each utf8 row_text
row_text_lem row = each_append utf8 (row_characters row) (feed ∷ []) ∙ rw (cells_text row)

pub rows_text : (row : ℕ → List ℕ) (ys : List ℕ) → each (each ys (λ y. ended (row_characters (row y)))) utf8 ≡ each ys (λ y. row_text (row y))
unfolding each
rows_text row [] = refl
rows_text row (y ∷ ys) = each_append utf8 (ended (row_characters (row y))) _ ∙ rw (row_text_lem (row y), rows_text row ys)

-- What is written for a stroke, a marker or an empty cell is a scalar value and no control character; so all of a row is, where its texts are.

low_clear : (ch : ℕ) → 0x20 ≤ ch → ch < 0xD800 → clear ch ≡ true
low_clear ch h l = and_both (sym (below_surrogates ch l)) (le-leb 0x20 ch h)

pub parts_clear : (p : Parts) (ch : ℕ) → ((t : ℕ) → p ≡ Text t → clear t ≡ true) → shape_of p ≡ Some ch → clear ch ≡ true
unfolding shape_of
parts_clear Empty ch texts e = let same : ch ≡ 0x20 = cc in rw same (low_clear 0x20 (omega arith) (omega arith))
parts_clear (Text t) ch texts e = let same : ch ≡ t = cc in rw same (texts t refl)
parts_clear Continuation ch texts e = let z : ◌≡◌ {A = ℕ} 0 1 = cc in absurd (omega arith)
parts_clear (Stroke arms) ch texts e =
    let same : ch ≡ stroke_shape arms = cc in
    rw same (low_clear (stroke_shape arms) (omega (arith, stroke_bound arms)) (omega (arith, stroke_bound arms)))
parts_clear (Marker kind dir dashed) ch texts e =
    let same : ch ≡ marker_shape kind dir = cc in
    rw same (low_clear (marker_shape kind dir) (omega (arith, marker_bound kind dir)) (omega (arith, marker_bound kind dir)))

-- every character that a row is written as
abbrev pub AllClear : List ℕ → Type 0
AllClear row = (x ch : ℕ) → shape_of (parts_at row x) ≡ Some ch → clear ch ≡ true

shape_clear : (s : Option ℕ) → ((ch : ℕ) → s ≡ Some ch → clear ch ≡ true) → every (characters_for s) clear ≡ true
unfolding every
shape_clear None h = refl
shape_clear (Some ch) h = and_both (h ch refl) refl

pub row_clear : (row : List ℕ) → AllClear row → every (row_characters row) clear ≡ true
unfolding each every cell_characters
row_clear [] h = refl
row_clear (w ∷ row) h =
    every_append clear (cell_characters w) (row_characters row) ∙ and_both (shape_clear (shape_of (read w)) (h 0)) (row_clear row (λ x. h (suc x)))

pub no_escape : (row : List ℕ) → AllClear row → NoEscape row
no_escape row h x ch e z = let low : 0x20 ≤ ch = leb-true 0x20 ch (and_right (is_scalar ch) _ (h x ch e)) in omega arith

-- rows whose cells are not written as an ESC, one after the other
pub rows_plain :
    (row colours : ℕ → List ℕ) → ((y : ℕ) → NoEscape (row y)) → (ys : List ℕ) →
    without_sequences (each ys (λ y. coloured_row (row y) (colours y))) ≡ each ys (λ y. row_text (row y))
unfolding each outside
rows_plain row colours none [] = refl
rows_plain row colours none (y ∷ ys) =
    plain_of_coloured_row (row y) (colours y) _ (none y) ∙ ap (λ (t : List ℕ). row_text (row y) ++ t) (rows_plain row colours none ys)

-- The columns.

-- the second column of a wide character, where one begins before
abbrev pending : Bool → List Column
pending before = cond before (goes_on ∷ []) []

module _ (ranges : List ℕ) (right : WidthsRight ranges) where
  one_column : (ch : ℕ) → width_of ranges ch ≡ 1 → filled_by ranges ch ≡ begins ch ∷ []
  unfolding filled_by
  one_column ch e = rw e

  text_filled : (ch : ℕ) → 1 ≤ width_of ranges ch → width_of ranges ch ≤ 2 → filled_by ranges ch ≡ begins ch ∷ pending (eqb (width_of ranges ch) 2)
  unfolding filled_by
  text_filled ch some h =
      by_order (width_of ranges ch) 2
      (λ l. let one : width_of ranges ch ≡ 1 = omega arith in rw one)
      (λ l. let two : width_of ranges ch ≡ 2 = omega arith in rw two)

  -- A cell's characters fill its column, and the next where it is a wide lead; the column of a continuation is filled before.
  cell_filled :
      (p : Parts) → ((ch : ℕ) → p ≡ Text ch → (1 ≤ width_of ranges ch) × (width_of ranges ch ≤ 2)) → DrawnUncovered ranges p →
      pending (continuation_parts p) ++ each (characters_for (shape_of p)) (filled_by ranges) ≡ cell_column (shape_of p) ∷ pending (lead_parts p ranges)
  unfolding each shape_of DrawnUncovered
  cell_filled Empty shown un = rw (one_column space (right.fixed space fixed.space))
  cell_filled (Text ch) shown un = let h = shown ch refl in append-nil _ ∙ text_filled ch h.0 h.1
  cell_filled Continuation shown un = refl
  cell_filled (Stroke arms) shown un = rw (one_column (stroke_shape arms) (right.other (stroke_shape arms) un))
  cell_filled (Marker kind dir dashed) shown un = rw (one_column (marker_shape kind dir) (right.other (marker_shape kind dir) un))

  filled_from :
      (row : List ℕ) (before : Bool) → PairedFrom ranges before row → Shown ranges row → RowUncovered ranges row →
      pending before ++ each (row_characters row) (filled_by ranges) ≡ row_columns row
  unfolding each cell_characters is_wide_lead is_continuation read
  filled_from [] before p shown un = rw (sym p.start)
  filled_from (w ∷ row) before p shown un =
      let rest = filled_from row (lead ranges (w ∷ row) 0) (from_next ranges before w row p) (λ x. shown (suc x)) (λ x. un (suc x)) in
      rw (sym p.start, each_append (filled_by ranges) (cell_characters w) (row_characters row), ← append_assoc, cell_filled (read w) (shown 0) (un 0), rest)

  -- The characters of a row fill the columns of its cells.
  pub row_filled :
      (row : List ℕ) → Whole ranges row → Shown ranges row → RowUncovered ranges row →
      each (row_characters row) (filled_by ranges) ≡ row_columns row
  row_filled row whole shown un = filled_from row false (from_start ranges row whole) shown un

  -- What a cell's characters take is what the cell takes, where no range covers what is written for a stroke or marker.
  cell_widths : (p : Parts) → DrawnUncovered ranges p → columns_of (characters_for (shape_of p)) ranges ≡ whole.columns_of ranges p
  unfolding shape_of DrawnUncovered columns_of whole.columns_of
  cell_widths Empty un = omega arith
  cell_widths (Text ch) un = omega arith
  cell_widths Continuation un = refl
  cell_widths (Stroke arms) un = omega (arith, right.other (stroke_shape arms) un)
  cell_widths (Marker kind dir dashed) un = omega (arith, right.other (marker_shape kind dir) un)

  columns_append : (a b : List ℕ) → columns_of (a ++ b) ranges ≡ columns_of a ranges + columns_of b ranges
  unfolding columns_of
  columns_append [] b = omega arith
  columns_append (ch ∷ a) b = omega (arith, columns_append a b)

  pub row_widths : (row : List ℕ) → RowUncovered ranges row → columns_of (row_characters row) ranges ≡ columns_of_cells ranges row
  unfolding each cell_characters columns_of columns_of_cells
  row_widths [] un = refl
  row_widths (w ∷ row) un =
      columns_append (cell_characters w) (row_characters row) ∙ rw (cell_widths (read w) (un 0), row_widths row (λ x. un (suc x)))

-- Any range may cover what is written for a stroke or marker, where that is counted as 1.
module _ (ranges : List ℕ) where
  cell_counted : (p : Parts) → counted ranges p (characters_for (shape_of p)) ≡ whole.columns_of ranges p
  unfolding shape_of counted columns_of whole.columns_of
  cell_counted Empty = omega arith
  cell_counted (Text ch) = omega arith
  cell_counted Continuation = refl
  cell_counted (Stroke arms) = refl
  cell_counted (Marker kind dir dashed) = refl

  pub row_counted : (row : List ℕ) → line_columns ranges row (row_characters row) ≡ columns_of_cells ranges row
  unfolding each cell_characters columns_of line_columns columns_of_cells
  row_counted [] = refl
  row_counted (w ∷ row) =
      let own = cell_characters w in
      rw (take_at own (row_characters row) (length own) refl, drop_at own (row_characters row) (length own) refl, cell_counted (read w), row_counted row)
