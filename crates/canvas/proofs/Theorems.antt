-- What holds of ink in a row: it keeps the row's length, vanishes off the row, and leaves packings.
use native.Mathlib.Omega.{arith}
use Prim.Native.Nat.{ℕ, ◌+◌, ◌-◌, ◌≤◌}
use mathlib.Core.Bool.{Bool, ◌&&◌}
use mathlib.Core.List.{List}
use mathlib.Core.Path.{◌≡◌, refl, ◌∙◌}
use lib.Dec.{eqb, ltb}
use lib.ListN.{length, get_or, length-set}
use lib.Seq.{set_out}
use borrow.Author.Tests.{le-ltb}
use Rattle.ground.proofs.Each.{cond_holds}
use Rattle.cell.specs.declared.Arms.{Arms}
use Rattle.cell.specs.declared.MarkerKind.{MarkerKind}
use Rattle.cell.specs.declared.Dir.{Dir}
use Rattle.cell.specs.declared.Parts.TheVariants.{Continuation}
use Rattle.cell.specs.OneCell.{pack, read_text, read, Packed, painted_text}
use Rattle.cell.proofs.Theorems.{empty_packed, continuation_packed, stroke_packed, marker_packed, text_packed}
use Rattle.glyph.specs.Width.{bisect, width_of}
use Rattle.canvas.specs.Row.{space, is_wide_lead, is_continuation, empty_continuation, blank_lead}
use Rattle.canvas.specs.Row.{put, stroke_row, marker_row, letter_row, wide_row, text_row}
use Rattle.canvas.specs.Cells.{AllPacked}
use Rattle.canvas.specs.ProofTable.{ProofTableRow}
use Rattle.canvas.proofs.Laws.{past_end, last_column, no_continuation_here}
use Rattle.canvas.proofs.Kept.{AnyStroke, KeptByInk, KeptByCell, CodePoint, put_keeps, cells_kept}

-- The length.

-- a row as long as another
abbrev AsLong : List ℕ → List ℕ → Type 0
AsLong row other = length other ≡ length row

empty_length : (row ranges : List ℕ) (x : ℕ) → length (empty_continuation row ranges x) ≡ length row
unfolding empty_continuation
empty_length row ranges x =
    cond_holds (AsLong row) (is_wide_lead (get_or row x 0) ranges && is_continuation (get_or row (x + 1) 0))
    (length-set row _ _)
    refl

blank_length : (row ranges : List ℕ) (x : ℕ) → length (blank_lead row ranges x) ≡ length row
unfolding blank_lead
blank_length row ranges x =
    cond_holds (AsLong row)
    (is_continuation (get_or row x 0) && (ltb 0 x && is_wide_lead (get_or row (x - 1) 0) ranges))
    (length-set row _ _)
    refl

-- A cell put into a row keeps the row's length.
pub put_length : (row ranges : List ℕ) (x new : ℕ) → length (put row ranges x new) ≡ length row
unfolding put
put_length row ranges x new =
    cond_holds (AsLong row) (eqb (get_or row x 0) new)
    refl
    (let emptied = empty_continuation row ranges x in
    length-set (blank_lead emptied ranges x) x new ∙ blank_length emptied ranges x ∙ empty_length row ranges x)

-- So does a stroke.
pub stroke_length :
    (row ranges : List ℕ) (x : ℕ) (arms : Arms) →
    length (stroke_row row ranges x arms) ≡ length row
unfolding stroke_row
stroke_length row ranges x arms = put_length row ranges x _

-- So does a marker.
pub marker_length :
    (row ranges : List ℕ) (x : ℕ) (kind : MarkerKind) (dir : Dir) (dashed : Bool) →
    length (marker_row row ranges x kind dir dashed) ≡ length row
unfolding marker_row
marker_length row ranges x kind dir dashed = put_length row ranges x _

letter_length : (row ranges : List ℕ) (x ch : ℕ) → length (letter_row row ranges x ch) ≡ length row
unfolding letter_row
letter_length row ranges x ch = put_length row ranges x _

wide_length : (row ranges : List ℕ) (x ch : ℕ) → length (wide_row row ranges x ch) ≡ length row
unfolding wide_row
wide_length row ranges x ch =
    cond_holds (AsLong row) (ltb (x + 1) (length row))
    (put_length (letter_row row ranges x ch) ranges (x + 1) (pack Continuation) ∙ letter_length row ranges x ch)
    (letter_length row ranges x space)

-- So does a glyph.
pub text_length : (row ranges : List ℕ) (x ch : ℕ) → length (text_row row ranges x ch) ≡ length row
unfolding text_row
text_length row ranges x ch =
    cond_holds (AsLong row) (eqb (width_of ranges ch) 0)
    refl
    (cond_holds (AsLong row) (eqb (width_of ranges ch) 2) (wide_length row ranges x ch) (letter_length row ranges x ch))

-- "Writes off the band vanish".

-- A cell put past the row's end changes nothing.
pub put_off : (row ranges : List ℕ) (x new : ℕ) → length row ≤ x → put row ranges x new ≡ row
unfolding put
put_off row ranges x new h =
    let e : row ≡ empty_continuation row ranges x = last_column row ranges x (omega arith) in
    let b : row ≡ blank_lead row ranges x = no_continuation_here row ranges x _ refl (past_end x row h) in
    cond_holds (λ (r : List ℕ). r ≡ row) (eqb (get_or row x 0) new)
    refl
    (rw (← e, ← b) (set_out row x new h))

-- Nor does a stroke.
pub stroke_off :
    (row ranges : List ℕ) (x : ℕ) (arms : Arms) →
    length row ≤ x →
    stroke_row row ranges x arms ≡ row
unfolding stroke_row
stroke_off row ranges x arms h = put_off row ranges x _ h

-- Nor does a marker.
pub marker_off :
    (row ranges : List ℕ) (x : ℕ) (kind : MarkerKind) (dir : Dir) (dashed : Bool) →
    length row ≤ x →
    marker_row row ranges x kind dir dashed ≡ row
unfolding marker_row
marker_off row ranges x kind dir dashed h = put_off row ranges x _ h

-- Nor does a glyph of one column.
pub letter_off : (row ranges : List ℕ) (x ch : ℕ) → length row ≤ x → letter_row row ranges x ch ≡ row
unfolding letter_row
letter_off row ranges x ch h = put_off row ranges x _ h

-- Nor does a glyph of two.
pub wide_off : (row ranges : List ℕ) (x ch : ℕ) → length row ≤ x → wide_row row ranges x ch ≡ row
unfolding wide_row
wide_off row ranges x ch h =
    let past : length row ≤ x + 1 = omega arith in
    simp (le-ltb _ _ past) (letter_off row ranges x space h)

-- Nor does a glyph of any width.
pub text_off : (row ranges : List ℕ) (x ch : ℕ) → length row ≤ x → text_row row ranges x ch ≡ row
unfolding text_row
text_off row ranges x ch h =
    cond_holds (λ (r : List ℕ). r ≡ row) (eqb (width_of ranges ch) 0)
    refl
    (cond_holds (λ (r : List ℕ). r ≡ row) (eqb (width_of ranges ch) 2) (wide_off row ranges x ch h) (letter_off row ranges x ch h))

-- Every cell that is written is a packing.

packing_kept : KeptByCell AnyStroke CodePoint Packed
unfolding pack painted_text
packing_kept = record {
  empty = empty_packed;
  continuation = continuation_packed;
  blank = omega arith;
  strokes = λ new w s p. stroke_packed new w p;
  markers = marker_packed;
  glyphs = λ ch valid. text_packed ch 0 valid;
}

-- Ink leaves a row of packings, where the glyphs are Unicode's code points.
pub packings_kept : (ranges : List ℕ) → KeptByInk ranges AnyStroke CodePoint AllPacked
packings_kept ranges = cells_kept packing_kept ranges

-- A packing put into a row of packings leaves a row of packings.
pub put_packed :
    (row ranges : List ℕ) (x new : ℕ) →
    AllPacked row →
    Packed new →
    AllPacked (put row ranges x new)
put_packed row ranges x new all p = put_keeps packing_kept row ranges x new all p

-- A stroke on a row of packings leaves a row of packings.
pub stroke_packed_row :
    (row ranges : List ℕ) (x : ℕ) (arms : Arms) →
    AllPacked row →
    AllPacked (stroke_row row ranges x arms)
stroke_packed_row row ranges x arms all = (packings_kept ranges).strokes row x arms tt all

-- So does a marker.
pub marker_packed_row :
    (row ranges : List ℕ) (x : ℕ) (kind : MarkerKind) (dir : Dir) (dashed : Bool) →
    AllPacked row →
    AllPacked (marker_row row ranges x kind dir dashed)
marker_packed_row row ranges x kind dir dashed all = (packings_kept ranges).markers row x kind dir dashed all

-- So does a glyph of a Unicode code point.
pub text_packed_row :
    (row ranges : List ℕ) (x ch : ℕ) →
    ch ≤ 0x10FFFF →
    AllPacked row →
    AllPacked (text_row row ranges x ch)
text_packed_row row ranges x ch valid all = (packings_kept ranges).glyphs row x ch valid all

-- The cases P5 and P6 of the proof table hold.
pub proof_table_row : ProofTableRow
unfolding pack read_text read painted_text bisect width_of is_wide_lead is_continuation empty_continuation blank_lead put letter_row wide_row text_row
proof_table_row = record { p5 = refl; p6 = refl }
