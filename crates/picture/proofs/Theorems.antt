-- What holds of the picture, and of every band that is painted.
use native.Mathlib.Omega.{arith}
use Prim.Native.Nat.{ℕ, ◌+◌, ◌≤◌, ◌<◌}
use mathlib.Core.List.{List, []}
use mathlib.Core.Path.{◌≡◌, refl, sym, ap, ◌∙◌}
use lib.ListN.{length, length-replicate}
use Rattle.cell.specs.declared.Parts.TheVariants.{Text}
use Rattle.layout.specs.Tables.{tables_of}
use Rattle.canvas.specs.Cells.{AllPacked}
use Rattle.rows.specs.declared.Window.{Window}
use Rattle.things.specs.Things.{sheet_of}
use Rattle.window.specs.Writes.{canvas}
use Rattle.controls.specs.Controls.{Control}
use Rattle.refusals.specs.FirstBroken.{Passed, Refused}
use Rattle.refusals.specs.Rules.{checked}
use Rattle.refusals.proofs.Theorems.{accepted_iff}
use Rattle.picture.specs.Picture.{width, height, picture_row, picture_cells, picture_colours}
use Rattle.picture.specs.Characters.{parts_at, Character}
use Rattle.picture.specs.Sheet.{window_painted, empty_window}
use Rattle.picture.specs.Painted.{room, scratch_room, plain_rooms, coloured_rooms, plain_judged, coloured_judged, plain_verdict, coloured_verdict, Painted, painted, PaintedColoured, painted_coloured}
use Rattle.picture.specs.ProofTable.{ProofTable, ExampleA}
use Rattle.picture.proofs.Statements.{IsRows, plain_window, rows_of, bands, OnlyListing, AsChecked, Band, SameBand, AllKept, ColouredBand, SameColouredBand}
use Rattle.picture.proofs.Statements.{OneBand, Roomy, rows_lent, cells_left, OneColouredBand, RoomyColoured, coloured_rows_lent, coloured_cells_left, colours_left}
use Rattle.picture.proofs.AllOf.{AllOf}
use Rattle.picture.proofs.Table.{table, example}
use Rattle.picture.proofs.Laws.{window_rows_lem, plain_rows, cells_length, colours_length}
use Rattle.picture.proofs.Cells.{glyph_size_lem, code_points, row_of_packings}
use Rattle.picture.proofs.Characters.{row_characters_lem, band_characters, printable}
use Rattle.picture.proofs.ListFree.{one_picture}
use Rattle.picture.proofs.Bands.{cells_bands, colours_bands, cells_turns, colours_turns}
use Rattle.picture.proofs.Answers.{kept_on_refusal, holds_needed, same_needed, as_checked, passed_accepted, plain_room, coloured_room_lem, cells_of_whole, colours_of_whole}

-- The cases P1 to P10 of the proof table hold.
pub proof_table : ProofTable
proof_table = table

-- The example of `sheetcells` holds.
pub example_a : ExampleA
example_a = example

-- The picture.

-- Every cell of an accepted image's picture is the packing of valid parts.
pub every_cell : (image : List ℕ) → (checked image).code ≡ 0 → (y : ℕ) → AllPacked (picture_row image y).cells
every_cell image accepted y =
    row_of_packings image (tables_of image) (glyph_size_lem image) (code_points image ((accepted_iff image).0 accepted)) y

-- Every character of an accepted image's picture is a glyph of the image, or one of the four that painting itself writes.
pub picture_characters :
    (image : List ℕ) → (checked image).code ≡ 0 → (y x ch : ℕ) →
    parts_at (picture_row image y).cells x ≡ Text ch → Character image ch
picture_characters image accepted y x ch e = row_characters_lem image ((accepted_iff image).0 accepted) y x ch e

-- So no cell of it holds a control character.
pub no_control :
    (image : List ℕ) → (checked image).code ≡ 0 → (y x ch : ℕ) →
    parts_at (picture_row image y).cells x ≡ Text ch → Control ch → ⊥
no_control image accepted y x ch e =
    printable image ((accepted_iff image).0 accepted) ch (picture_characters image accepted y x ch e)

-- A window that is painted at once is its rows of the picture side by side, cells and colours.
pub window_is_rows :
    (image : List ℕ) (v : Window) → v.width ≡ width image →
    IsRows image v (window_painted image (tables_of image) v (empty_window v))
window_is_rows image v wide = window_rows_lem image v wide

-- Without the planes of colours and stamps the cells are the same, and there are no colours.
pub window_is_rows_plain :
    (image : List ℕ) (v : Window) → v.width ≡ width image →
    window_painted image (tables_of image) v (plain_window v) ≡ canvas (picture_cells image v.first v.rows) [] []
window_is_rows_plain image v wide = plain_rows image v wide

-- So is the sheet, the window of all rows.
pub sheet_is_rows : (image : List ℕ) → IsRows image (sheet_of image) (window_painted image (tables_of image) (sheet_of image) (empty_window (sheet_of image)))
sheet_is_rows image = window_rows_lem image (sheet_of image) refl

-- Consecutive bands of any heights are the rows of all of them, cells and colours.
pub bands_join :
    (image : List ℕ) (first : ℕ) (heights : List ℕ) →
    (bands (picture_cells image) first heights ≡ picture_cells image first (rows_of heights))
    × (bands (picture_colours image) first heights ≡ picture_colours image first (rows_of heights))
bands_join image first heights = (cells_bands image first heights, colours_bands image first heights)

-- Two accepted images that differ only in element list and run capacity have one picture.
pub list_free :
    (a b : List ℕ) →
    (checked a).code ≡ 0 →
    (checked b).code ≡ 0 →
    OnlyListing a b →
    (y : ℕ) → picture_row a y ≡ picture_row b y
list_free a b accepted accepted' o y = one_picture a b o ((accepted_iff a).0 accepted) ((accepted_iff b).0 accepted') y

-- Painting without colours.

-- Paint refuses what check refuses, with that code and place; else a band that leaves the sheet, else the first buffer that is short; else it passes.
pub paint_refuses_as_check :
    (image : List ℕ) (first rows : ℕ) (cells scratch : List ℕ) →
    AsChecked image first rows (plain_judged image rows cells scratch) (painted image first rows cells scratch).verdict
unfolding painted
paint_refuses_as_check image first rows cells scratch = as_checked image first rows (plain_judged image rows cells scratch)

-- A refusal leaves every lent buffer as it was.
pub refusal_keeps :
    (image : List ℕ) (first rows : ℕ) (cells scratch : List ℕ) (code place : ℕ) →
    (painted image first rows cells scratch).verdict ≡ Refused code place →
    ((painted image first rows cells scratch).cells ≡ cells) × ((painted image first rows cells scratch).scratch ≡ scratch)
unfolding painted
refusal_keeps image first rows cells scratch code place e =
    (kept_on_refusal _ _ cells code place e, kept_on_refusal _ _ scratch code place e)

-- Any two answers that paint's contract permits are equal.
pub one_answer :
    (image : List ℕ) (first rows : ℕ) (cells scratch : List ℕ) (r s : Painted) →
    r ≡ painted image first rows cells scratch →
    s ≡ painted image first rows cells scratch →
    r ≡ s
one_answer image first rows cells scratch r s p q = p ∙ sym q

-- An accepted image, a band inside the sheet and enough room: paint passes, and leaves exactly those rows of the picture.
pub band_is_picture :
    (image : List ℕ) (first rows : ℕ) (cells scratch : List ℕ) →
    (checked image).code ≡ 0 →
    first + rows ≤ height image →
    room image rows ≤ length cells →
    scratch_room image ≤ length scratch →
    Band image first rows cells scratch (painted image first rows cells scratch)
unfolding painted
band_is_picture image first rows cells scratch accepted inside roomy spare =
    let good : plain_verdict image first rows cells scratch ≡ Passed
    = (as_checked image first rows _).passed accepted inside (plain_room _ _ cells scratch roomy spare) in
    record {
      verdict = good;
      cells = holds_needed _ _ cells _ _ (cells_length image first rows) (cells_of_whole image first rows inside) good;
      scratch = holds_needed _ _ scratch _ _ (length-replicate (scratch_room image) 0) refl good;
    }

-- What stood in the lent buffers before does not matter, if they are as long.
pub whichever_before :
    (image : List ℕ) (first rows : ℕ) (cells cells' scratch scratch' : List ℕ) →
    length cells ≡ length cells' →
    length scratch ≡ length scratch' →
    SameBand image rows (painted image first rows cells scratch) (painted image first rows cells' scratch')
unfolding painted plain_rooms
whichever_before image first rows cells cells' scratch scratch' e e' =
    let same : plain_verdict image first rows cells scratch ≡ plain_verdict image first rows cells' scratch' = rw (e, e') in
    record {
      verdict = same;
      cells = same_needed _ _ _ cells cells' _ (cells_length image first rows) same;
      scratch = same_needed _ _ _ scratch scratch' _ (length-replicate (scratch_room image) 0) same;
    }

-- Bands of an accepted image, painted one below the other into any buffers that have room, join to its rows: however cut, and whatever stood in the buffers.
pub painted_join :
    (image : List ℕ) → (checked image).code ≡ 0 → (first : ℕ) (lent : List OneBand) → AllOf (Roomy image) lent → first + rows_lent lent ≤ height image →
    cells_left image first lent ≡ picture_cells image first (rows_lent lent)
painted_join image accepted first lent roomy inside =
    cells_turns image (λ b. b.rows) _ (Roomy image) first lent roomy inside
    (λ y b r h. (band_is_picture image y b.rows b.cells b.scratch accepted h r.0 r.1).cells.needed ∙ sym (cells_of_whole image y b.rows h))

-- So bands that have all rows join to the whole sheet.
pub painted_whole :
    (image : List ℕ) → (checked image).code ≡ 0 → (lent : List OneBand) → AllOf (Roomy image) lent → rows_lent lent ≡ height image →
    cells_left image 0 lent ≡ picture_cells image 0 (height image)
painted_whole image accepted lent roomy whole =
    painted_join image accepted 0 lent roomy (omega (arith, whole)) ∙ ap (picture_cells image 0) whole

-- Where paint passes, no needed cell that it leaves holds a control character.
pub band_no_control :
    (image : List ℕ) (first rows : ℕ) (cells scratch : List ℕ) →
    (painted image first rows cells scratch).verdict ≡ Passed →
    (n ch : ℕ) → n < room image rows → parts_at (painted image first rows cells scratch).cells n ≡ Text ch → Control ch → ⊥
unfolding painted
band_no_control image first rows cells scratch passed n ch h e =
    let keeps = (accepted_iff image).0 (passed_accepted image first rows _ _ (paint_refuses_as_check image first rows cells scratch) passed) in
    printable image keeps ch (band_characters image keeps first rows _ cells passed n ch h e)

-- Painting with colours.

-- Paint with colours refuses what check refuses, with that code and place; else a band that leaves the sheet, else the first buffer that is short; else it
-- passes.
pub paint_refuses_as_check_coloured :
    (image : List ℕ) (first rows : ℕ) (cells colours stamps scratch : List ℕ) →
    AsChecked image first rows (coloured_judged image rows cells colours stamps scratch) (painted_coloured image first rows cells colours stamps scratch).verdict
unfolding painted_coloured
paint_refuses_as_check_coloured image first rows cells colours stamps scratch =
    as_checked image first rows (coloured_judged image rows cells colours stamps scratch)

-- A refusal leaves every lent buffer as it was.
pub refusal_keeps_coloured :
    (image : List ℕ) (first rows : ℕ) (cells colours stamps scratch : List ℕ) (code place : ℕ) →
    (painted_coloured image first rows cells colours stamps scratch).verdict ≡ Refused code place →
    AllKept cells colours stamps scratch (painted_coloured image first rows cells colours stamps scratch)
unfolding painted_coloured
refusal_keeps_coloured image first rows cells colours stamps scratch code place e = record {
  cells = kept_on_refusal _ _ cells code place e;
  colours = kept_on_refusal _ _ colours code place e;
  stamps = kept_on_refusal _ _ stamps code place e;
  scratch = kept_on_refusal _ _ scratch code place e;
}

-- Any two answers that the contract permits are equal.
pub one_answer_coloured :
    (image : List ℕ) (first rows : ℕ) (cells colours stamps scratch : List ℕ) (r s : PaintedColoured) →
    r ≡ painted_coloured image first rows cells colours stamps scratch →
    s ≡ painted_coloured image first rows cells colours stamps scratch →
    r ≡ s
one_answer_coloured image first rows cells colours stamps scratch r s p q = p ∙ sym q

-- An accepted image, a band inside the sheet and enough room: paint passes, and leaves exactly those rows of the picture, with their colours.
pub band_is_picture_coloured :
    (image : List ℕ) (first rows : ℕ) (cells colours stamps scratch : List ℕ) →
    (checked image).code ≡ 0 →
    first + rows ≤ height image →
    room image rows ≤ length cells →
    room image rows ≤ length colours →
    room image rows ≤ length stamps →
    scratch_room image ≤ length scratch →
    ColouredBand image first rows cells colours stamps scratch (painted_coloured image first rows cells colours stamps scratch)
unfolding painted_coloured
band_is_picture_coloured image first rows cells colours stamps scratch accepted inside roomy wide tall spare =
    let good : coloured_verdict image first rows cells colours stamps scratch ≡ Passed
    = (as_checked image first rows _).passed accepted inside (coloured_room_lem _ _ cells scratch roomy spare colours stamps wide tall) in
    record {
      verdict = good;
      cells = holds_needed _ _ cells _ _ (cells_length image first rows) (cells_of_whole image first rows inside) good;
      colours = holds_needed _ _ colours _ _ (colours_length image first rows) (colours_of_whole image first rows inside) good;
      stamps = holds_needed _ _ stamps _ _ (length-replicate (room image rows) 0) refl good;
      scratch = holds_needed _ _ scratch _ _ (length-replicate (scratch_room image) 0) refl good;
    }

-- What stood in the lent buffers before does not matter, if they are as long.
pub whichever_before_coloured :
    (image : List ℕ) (first rows : ℕ) (cells cells' colours colours' stamps stamps' scratch scratch' : List ℕ) →
    length cells ≡ length cells' →
    length colours ≡ length colours' →
    length stamps ≡ length stamps' →
    length scratch ≡ length scratch' →
    SameColouredBand image rows (painted_coloured image first rows cells colours stamps scratch)
    (painted_coloured image first rows cells' colours' stamps' scratch')
unfolding painted_coloured coloured_rooms
whichever_before_coloured image first rows cells cells' colours colours' stamps stamps' scratch scratch' e f g h =
    let same : coloured_verdict image first rows cells colours stamps scratch ≡ coloured_verdict image first rows cells' colours' stamps' scratch'
    = rw (e, f, g, h) in
    record {
      verdict = same;
      cells = same_needed _ _ _ cells cells' _ (cells_length image first rows) same;
      colours = same_needed _ _ _ colours colours' _ (colours_length image first rows) same;
      stamps = same_needed _ _ _ stamps stamps' _ (length-replicate (room image rows) 0) same;
      scratch = same_needed _ _ _ scratch scratch' _ (length-replicate (scratch_room image) 0) same;
    }

-- Coloured bands of an accepted image join to its rows and to their colours.
pub painted_join_coloured :
    (image : List ℕ) → (checked image).code ≡ 0 → (first : ℕ) (lent : List OneColouredBand) → AllOf (RoomyColoured image) lent →
    first + coloured_rows_lent lent ≤ height image →
    (coloured_cells_left image first lent ≡ picture_cells image first (coloured_rows_lent lent))
    × (colours_left image first lent ≡ picture_colours image first (coloured_rows_lent lent))
painted_join_coloured image accepted first lent roomy inside =
    let left : (y : ℕ) (b : OneColouredBand) → RoomyColoured image b → y + b.rows ≤ height image → ColouredBand image y b.rows _ _ _ _ _
    = λ y b r h. band_is_picture_coloured image y b.rows b.cells b.colours b.stamps b.scratch accepted h r.0 r.1 r.2 r.3 in (
      cells_turns image (λ b. b.rows) _ (RoomyColoured image) first lent roomy inside
          (λ y b r h. (left y b r h).cells.needed ∙ sym (cells_of_whole image y b.rows h)),
      colours_turns image (λ b. b.rows) _ (RoomyColoured image) first lent roomy inside
          (λ y b r h. (left y b r h).colours.needed ∙ sym (colours_of_whole image y b.rows h)),
    )

-- So coloured bands that have all rows join to the whole sheet.
pub painted_whole_coloured :
    (image : List ℕ) → (checked image).code ≡ 0 → (lent : List OneColouredBand) → AllOf (RoomyColoured image) lent → coloured_rows_lent lent ≡ height image →
    (coloured_cells_left image 0 lent ≡ picture_cells image 0 (height image)) × (colours_left image 0 lent ≡ picture_colours image 0 (height image))
painted_whole_coloured image accepted lent roomy whole =
    let join = painted_join_coloured image accepted 0 lent roomy (omega (arith, whole)) in
    (join.0 ∙ ap (picture_cells image 0) whole, join.1 ∙ ap (picture_colours image 0) whole)

-- Where it passes, no needed cell that it leaves holds a control character.
pub band_no_control_coloured :
    (image : List ℕ) (first rows : ℕ) (cells colours stamps scratch : List ℕ) →
    (painted_coloured image first rows cells colours stamps scratch).verdict ≡ Passed →
    (n ch : ℕ) → n < room image rows →
    parts_at (painted_coloured image first rows cells colours stamps scratch).cells n ≡ Text ch → Control ch → ⊥
unfolding painted_coloured
band_no_control_coloured image first rows cells colours stamps scratch passed n ch h e =
    let checked_too = paint_refuses_as_check_coloured image first rows cells colours stamps scratch in
    let keeps = (accepted_iff image).0 (passed_accepted image first rows _ _ checked_too passed) in
    printable image keeps ch (band_characters image keeps first rows _ cells passed n ch h e)
