-- A property that ink keeps: where a stroke, a marker and a glyph keep it of one cell, they keep it of every cell of a row.
use Prim.Native.Nat.{ℕ, ◌+◌, ◌-◌, ◌≤◌, ◌<◌}
use mathlib.Core.Bool.{Bool, ◌&&◌}
use mathlib.Core.List.{List}
use lib.Dec.{eqb, ltb}
use lib.ListN.{length, get_or, set, length-set, get_or-eq_default}
use lib.Seq.{get_or-set_same, get_or-set_other}
use native.Mathlib.Omega.{arith}
use Rattle.ground.proofs.Each.{cond_holds}
use Rattle.ground.proofs.Order.{by_order, by_three}
use Rattle.cell.specs.declared.Arms.{Arms}
use Rattle.cell.specs.declared.MarkerKind.{MarkerKind}
use Rattle.cell.specs.declared.Dir.{Dir}
use Rattle.cell.specs.declared.Parts.TheVariants.{Text, Continuation}
use Rattle.cell.specs.OneCell.{pack, painted_stroke, painted_marker, painted_text}
use Rattle.glyph.specs.Width.{width_of}
use Rattle.canvas.specs.Row.{space, is_wide_lead, is_continuation, empty_continuation, blank_lead}
use Rattle.canvas.specs.Row.{put, stroke_row, marker_row, letter_row, wide_row, text_row}

-- one of Unicode's code points
abbrev pub CodePoint : ℕ → Type 0
CodePoint ch = ch ≤ 0x10FFFF

-- every cell of a row has a property
abbrev pub AllCells : (ℕ → Type 0) → List ℕ → Type 0
AllCells C row = (k : ℕ) → k < length row → C (get_or row k 0)

-- the property that every stroke has
abbrev pub AnyStroke : Arms → Type 0
AnyStroke arms = Unit {0}

-- what a row keeps, whatever is inked in it, where the strokes have the property S and the glyphs the property Q
pub record KeptByInk (ranges : List ℕ) (S : Arms → Type 0) (Q : ℕ → Type 0) (P : List ℕ → Type 0) : Type 0 where
  pub strokes : (row : List ℕ) (x : ℕ) (arms : Arms) → S arms → P row → P (stroke_row row ranges x arms)
  pub markers : (row : List ℕ) (x : ℕ) (kind : MarkerKind) (dir : Dir) (dashed : Bool) → P row → P (marker_row row ranges x kind dir dashed)
  pub glyphs : (row : List ℕ) (x ch : ℕ) → Q ch → P row → P (text_row row ranges x ch)

-- what one cell keeps, whatever is inked on it, where the strokes have the property S and the glyphs the property Q
pub record KeptByCell (S : Arms → Type 0) (Q C : ℕ → Type 0) : Type 0 where
  pub empty : C 0
  pub continuation : C (pack Continuation)
  -- a lead that lost its continuation, and a wide glyph in the last column, become a space
  pub blank : Q space
  pub strokes : (new : Arms) (w : ℕ) → S new → C w → C (painted_stroke w new)
  pub markers : (kind : MarkerKind) (dir : Dir) (dashed : Bool) (w : ℕ) → C w → C (painted_marker w kind dir dashed)
  pub glyphs : (ch : ℕ) → Q ch → C (pack (Text ch))

module _ {S : Arms → Type 0} {Q C : ℕ → Type 0} (keeps : KeptByCell S Q C) where
  set_keeps : (x new : ℕ) (row : List ℕ) → AllCells C row → C new → AllCells C (set row x new)
  set_keeps x new row all p k h =
      let inside : k < length row = rw length-set at h in
      by_three k x
      (λ less. rw (get_or-set_other row x k new 0 (λ e. omega arith)) (all k inside))
      (λ more. rw (get_or-set_other row x k new 0 (λ e. omega arith)) (all k inside))
      (λ e. rw (← e, get_or-set_same row k new 0 inside) p)

  -- a column past the end reads as empty
  pub at_holds : (x : ℕ) (row : List ℕ) → AllCells C row → C (get_or row x 0)
  at_holds x row all = by_order x (length row) (all x) (λ h. rw (get_or-eq_default row 0 h) keeps.empty)

  empty_keeps : (row ranges : List ℕ) (x : ℕ) → AllCells C row → AllCells C (empty_continuation row ranges x)
  unfolding empty_continuation pack
  empty_keeps row ranges x all =
      cond_holds (AllCells C) (is_wide_lead (get_or row x 0) ranges && is_continuation (get_or row (x + 1) 0))
      (set_keeps (x + 1) _ row all keeps.empty)
      all

  blank_keeps : (row ranges : List ℕ) (x : ℕ) → AllCells C row → AllCells C (blank_lead row ranges x)
  unfolding blank_lead
  blank_keeps row ranges x all =
      cond_holds (AllCells C)
      (is_continuation (get_or row x 0) && (ltb 0 x && is_wide_lead (get_or row (x - 1) 0) ranges))
      (set_keeps (x - 1) _ row all (keeps.glyphs space keeps.blank))
      all

  pub put_keeps : (row ranges : List ℕ) (x new : ℕ) → AllCells C row → C new → AllCells C (put row ranges x new)
  unfolding put
  put_keeps row ranges x new all p =
      cond_holds (AllCells C) (eqb (get_or row x 0) new)
      all
      (let emptied = empty_continuation row ranges x in
      set_keeps x new (blank_lead emptied ranges x) (blank_keeps emptied ranges x (empty_keeps row ranges x all)) p)

  letter_keeps : (row ranges : List ℕ) (x ch : ℕ) → Q ch → AllCells C row → AllCells C (letter_row row ranges x ch)
  unfolding letter_row painted_text
  letter_keeps row ranges x ch q all = put_keeps row ranges x _ all (keeps.glyphs ch q)

  wide_keeps : (row ranges : List ℕ) (x ch : ℕ) → Q ch → AllCells C row → AllCells C (wide_row row ranges x ch)
  unfolding wide_row
  wide_keeps row ranges x ch q all =
      cond_holds (AllCells C) (ltb (x + 1) (length row))
      (put_keeps (letter_row row ranges x ch) ranges (x + 1) _ (letter_keeps row ranges x ch q all) keeps.continuation)
      (letter_keeps row ranges x space keeps.blank all)

  -- So all ink keeps it of every cell of a row.
  pub cells_kept : (ranges : List ℕ) → KeptByInk ranges S Q (AllCells C)
  unfolding stroke_row marker_row text_row
  cells_kept ranges = record {
    strokes = λ row x arms s all. put_keeps row ranges x _ all (keeps.strokes arms _ s (at_holds x row all));
    markers = λ row x kind dir dashed all. put_keeps row ranges x _ all (keeps.markers kind dir dashed _ (at_holds x row all));
    glyphs = λ row x ch q all.
        cond_holds (AllCells C) (eqb (width_of ranges ch) 0)
        all
        (cond_holds (AllCells C) (eqb (width_of ranges ch) 2) (wide_keeps row ranges x ch q all) (letter_keeps row ranges x ch q all));
  }
