-- No picture holds a stroke without arms, so that each of its strokes is written as a Box Drawing character.
use native.Mathlib.Omega.{arith}
use Prim.Native.Nat.{ℕ, ◌+◌, ◌≤◌, ◌<◌}
use mathlib.Core.List.{List}
use mathlib.Core.Logic.{◌↔◌}
use mathlib.Core.Path.{◌≡◌, refl, ap}
use Rattle.cell.specs.declared.Weight.{Weight}
use Rattle.cell.specs.declared.Weight.TheVariants as weight
use Rattle.cell.specs.declared.Arms.{Arms}
use Rattle.cell.specs.declared.Parts.TheVariants.{Stroke}
use Rattle.cell.specs.OneCell.{weight_number, weight_of, read}
use Rattle.canvas.proofs.Kept.{AllCells, at_holds, cells_kept}
use Rattle.canvas.proofs.PackedStroke.{arm_low}
use Rattle.layout.specs.Layout.{edge_flags, weight_step, weights}
use Rattle.layout.specs.Tables.{bits, field, tables_of}
use Rattle.image.specs.Records.{edge_at}
use Rattle.refusals.specs.FirstBroken.{Passed}
use Rattle.refusals.specs.Rules.{checked}
use Rattle.refusals.proofs.Theorems.{accepted_iff}
use Rattle.picture.specs.Characters.{parts_at}
use Rattle.picture.specs.Picture.{width, picture_row}
use Rattle.picture.specs.Painted.{painted, painted_coloured}
use Rattle.picture.proofs.Cells.{glyph_size_lem, empty_row, row_has_of}
use Rattle.whole.specs.Whole.{ranges_in, band_row}
use Rattle.whole.proofs.Theorems.{accepted_plain, row_plain, accepted_coloured, row_coloured}
use Rattle.shapes.specs.Shapes.{arms_number, stroke_shape}
use Rattle.shapes.proofs.Theorems.{table_right}
use Rattle.armed.specs.Armed.{Armless, Armed, EdgesHaveWeights}
use Rattle.armed.proofs.Laws.{armless_number, number_armless, HasArm, made_arm, AnyGlyph, ArmedCell, armed_kept}

-- A stroke is without arms exactly where it stands at place 0 of the table of characters.
pub armless_iff : (arms : Arms) → Armless arms ↔ (arms_number arms ≡ 0)
armless_iff arms = (armless_number arms, number_armless arms)

-- Any image, accepted or not, whose edges have weights.

has_weight : (w : Weight) → (w ≡ weight.None → ⊥) → 0 < weight_number w
has_weight weight.None h = absurd (h refl)
has_weight weight.Dashed h = omega arith
has_weight weight.Light h = omega arith
has_weight weight.Double h = omega arith

row_armed : (image : List ℕ) → EdgesHaveWeights image → (y : ℕ) → AllCells ArmedCell (picture_row image y).cells
unfolding read
row_armed image own y =
    row_has_of HasArm AnyGlyph made_arm (λ ch f. tt) image (tables_of image) (glyph_size_lem image)
    (λ k h. made_arm _ (has_weight _ (own k (omega arith)))) (λ k h. tt)
    (AllCells ArmedCell) (cells_kept armed_kept (ranges_in image)) (empty_row ArmedCell tt (width image)) y

-- Each row of its picture holds no stroke without arms.
pub armed_of : (image : List ℕ) → EdgesHaveWeights image → (y : ℕ) → Armed (picture_row image y).cells
armed_of image own y x arms e none =
    let has : HasArm arms = rw e at (at_holds armed_kept x (picture_row image y).cells (row_armed image own y)) in
    omega (arith, armless_number arms none)

-- An accepted image is such an image: the rule of an edge sees to it.
pub accepted_weights : (image : List ℕ) → (checked image).code ≡ 0 → EdgesHaveWeights image
unfolding edge_at
accepted_weights image accepted k h none =
    let n = bits (field image (tables_of image).edges k edge_flags) weight_step weights in
    let rule : 0 < n = (((accepted_iff image).0 accepted).tables.fields.edges k h).flags.weight in
    let same : weight_number (weight_of n) ≡ n = arm_low n (omega arith) in
    let weightless : weight_number (weight_of n) ≡ 0 = ap weight_number none in
    omega arith

-- No row of an accepted image's picture holds a stroke without arms.
pub armed : (image : List ℕ) → (checked image).code ≡ 0 → (y : ℕ) → Armed (picture_row image y).cells
armed image accepted y = armed_of image (accepted_weights image accepted) y

-- So every stroke of it is written as a character of the Box Drawing block.
pub stroke_drawn :
    (image : List ℕ) → (checked image).code ≡ 0 →
    (y x : ℕ) (arms : Arms) → parts_at (picture_row image y).cells x ≡ Stroke arms →
    (0x2500 ≤ stroke_shape arms) × (stroke_shape arms ≤ 0x257F)
stroke_drawn image accepted y x arms e = table_right.in_block arms (λ none. armed image accepted y x arms e (number_armless arms none))

-- The same of each row that painting leaves, where it passes.

pub band_armed :
    (image : List ℕ) (first rows : ℕ) (cells scratch : List ℕ) →
    (painted image first rows cells scratch).verdict ≡ Passed →
    (i : ℕ) → i < rows → Armed (band_row image i (painted image first rows cells scratch).cells)
band_armed image first rows cells scratch passed i h =
    rw (row_plain image first rows cells scratch passed i h)
    (armed image (accepted_plain image first rows cells scratch passed) (first + i))

pub band_armed_coloured :
    (image : List ℕ) (first rows : ℕ) (cells colours stamps scratch : List ℕ) →
    (painted_coloured image first rows cells colours stamps scratch).verdict ≡ Passed →
    (i : ℕ) → i < rows → Armed (band_row image i (painted_coloured image first rows cells colours stamps scratch).cells)
band_armed_coloured image first rows cells colours stamps scratch passed i h =
    rw (row_coloured image first rows cells colours stamps scratch passed i h)
    (armed image (accepted_coloured image first rows cells colours stamps scratch passed) (first + i))
