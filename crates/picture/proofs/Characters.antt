-- Each character of a picture is one of the image's own, or one that painting itself writes; so none is a control character.
use native.Mathlib.Omega.{arith}
use Prim.Native.Nat.{ℕ, zero, suc, ◌+◌, ◌-◌, ◌<◌}
use mathlib.Core.List.{List, ◌++◌}
use mathlib.Core.Logic.{◌⊎◌, ⊎_elim}
use mathlib.Core.Path.{◌≡◌, refl, sym, ◌∙◌}
use lib.ListN.{length, drop, get_or, length-append, get_or-append}
use lib.Seq.{get_or-append-add}
use Rattle.ground.specs.Each.{numbers, each}
use Rattle.ground.proofs.Order.{by_order}
use Rattle.cell.specs.declared.Parts.{Parts}
use Rattle.cell.specs.declared.Parts.TheVariants.{Empty, Text, Continuation}
use Rattle.cell.specs.OneCell.{pack, read, Valid, Packed}
use Rattle.cell.proofs.Theorems.{read_pack, stroke_packed, marker_packed}
use Rattle.cell.proofs.Theorems.{read_stroked, read_marked, stroke_text, marker_text}
use Rattle.glyph.specs.Ranges.{Fixed}
use Rattle.glyph.specs.Ranges as fixed
use Rattle.canvas.specs.Row.{space}
use Rattle.canvas.proofs.Kept.{CodePoint, AnyStroke, AllCells, KeptByCell, at_holds, cells_kept}
use Rattle.layout.specs.Layout.{glyph_value}
use Rattle.layout.specs.Tables.{field, tables_of}
use Rattle.things.specs.Things.{ranges_of}
use Rattle.controls.specs.Controls.{Control}
use Rattle.refusals.specs.FirstBroken.{Verdict, Passed}
use Rattle.refusals.specs.Accepted.{Keeps}
use Rattle.picture.specs.Picture.{width, picture_row, picture_cells}
use Rattle.picture.specs.Painted.{room, afterwards}
use Rattle.picture.specs.Characters.{parts_at, Character, written, glyph}
use Rattle.picture.proofs.Laws.{cells_length}
use Rattle.picture.proofs.Cells.{glyph_size_lem, code_points, fixed_code_point, empty_row, row_has}

-- Of any property of characters: a cell is a packing, and its character, where it is a text, has the property.
module _ (Q : ℕ → Type 0) where
  pub record Lettered (w : ℕ) : Type 0 where
    pub packed : Packed w
    pub letter : (ch : ℕ) → read w ≡ Text ch → Q ch

  -- one of Unicode's characters that has it
  abbrev pub Letter : ℕ → Type 0
  Letter ch = CodePoint ch × Q ch

  pack_lettered : (p : Parts) → Valid p → ((ch : ℕ) → p ≡ Text ch → Q ch) → Lettered (pack p)
  pack_lettered p valid has = record {
    packed = record { parts = p; valid = valid; packing = refl };
    letter = λ ch e. has ch (sym (read_pack p valid) ∙ e);
  }

  -- Ink keeps that, where its glyphs have the property.
  pub letters_kept : Letter space → KeptByCell AnyStroke Letter Lettered
  unfolding Valid pack
  letters_kept blank = record {
    empty = pack_lettered Empty tt (λ ch e. let z : ◌≡◌ {A = ℕ} 0 1 = cc in absurd (omega arith));
    continuation = pack_lettered Continuation tt (λ ch e. let z : ◌≡◌ {A = ℕ} 0 1 = cc in absurd (omega arith));
    blank = blank;
    strokes = λ new w s h. record {
      packed = stroke_packed new w h.packed;
      letter = λ ch e. h.letter ch (stroke_text (read w) new ch (sym (read_stroked new w h.packed) ∙ e));
    };
    markers = λ kind dir dashed w h. record {
      packed = marker_packed kind dir dashed w h.packed;
      letter = λ ch e. h.letter ch (marker_text (read w) kind dir dashed ch (sym (read_marked kind dir dashed w h.packed) ∙ e));
    };
    glyphs = λ ch has. pack_lettered (Text ch) has.0 (λ other e. let same : ch ≡ other = cc in rw (← same) has.1);
  }

-- What every cell of every row has, every cell of rows side by side has.
side_by_side : (C : ℕ → Type 0) (f : ℕ → List ℕ) → ((y : ℕ) → AllCells C (f y)) → (first rows : ℕ) → AllCells C (each (numbers first rows) f)
unfolding numbers each
side_by_side C f all first zero k h = absurd (omega arith)
side_by_side C f all first (suc rows) k h =
    let rest = each (numbers (suc first) rows) f in
    by_order k (length (f first))
    (λ inside. rw (get_or-append (f first) rest 0 k inside) (all first k inside))
    (λ past.
    let e : length (f first) + (k - length (f first)) ≡ k = omega arith in
    let left : k - length (f first) < length rest = omega (arith, length-append (f first) rest) in
    rw (← e, get_or-append-add (f first) rest (k - length (f first)) 0) (side_by_side C f all (suc first) rows (k - length (f first)) left))

-- Of an image that keeps every rule.
module _ (image : List ℕ) (keeps : Keeps image) where
  fixed_letter : (ch : ℕ) → Fixed ch → Letter (Character image) ch
  fixed_letter ch f = (fixed_code_point ch f, written f)

  own_letter :
      (k : ℕ) → k < (tables_of image).glyphs.count →
      Letter (Character image) (field image (tables_of image).glyphs k glyph_value)
  own_letter k h = (code_points image keeps k h, glyph k h refl)

  row_lettered : (y : ℕ) → AllCells (Lettered (Character image)) (picture_row image y).cells
  row_lettered y =
      let kept = letters_kept (Character image) (fixed_letter space fixed.space) in
      row_has (Letter (Character image)) fixed_letter image (tables_of image) (glyph_size_lem image) own_letter
      (AllCells (Lettered (Character image)))
      (cells_kept kept (ranges_of image (tables_of image)))
      (empty_row (Lettered (Character image)) kept.empty (width image)) y

  pub row_characters_lem : (y x ch : ℕ) → parts_at (picture_row image y).cells x ≡ Text ch → Character image ch
  row_characters_lem y x ch e =
      (at_holds (letters_kept (Character image) (fixed_letter space fixed.space)) x (picture_row image y).cells (row_lettered y)).letter ch e

  -- The same of the needed words that painting leaves.
  pub band_characters :
      (first rows : ℕ) (v : Verdict) (lent : List ℕ) → v ≡ Passed → (n ch : ℕ) → n < room image rows →
      parts_at (afterwards v (picture_cells image first rows) lent) n ≡ Text ch → Character image ch
  unfolding afterwards picture_cells
  band_characters first rows v lent passed n ch h e =
      let needed = picture_cells image first rows in
      let inside : n < length needed = rw (cells_length image first rows) h in
      let same : get_or (needed ++ drop (length needed) lent) n 0 ≡ get_or needed n 0 = get_or-append needed _ 0 n inside in
      (side_by_side (Lettered (Character image)) (λ y. (picture_row image y).cells) row_lettered first rows n inside).letter ch
      (rw (passed, same) at e)

  fixed_printable : (ch : ℕ) → Fixed ch → Control ch → ⊥
  fixed_printable ch fixed.space c = ⊎_elim (λ low. omega arith) (λ high. omega arith) c
  fixed_printable ch fixed.quote c = ⊎_elim (λ low. omega arith) (λ high. omega arith) c
  fixed_printable ch fixed.opening c = ⊎_elim (λ low. omega arith) (λ high. omega arith) c
  fixed_printable ch fixed.closing c = ⊎_elim (λ low. omega arith) (λ high. omega arith) c

  pub printable : (ch : ℕ) → Character image ch → Control ch → ⊥
  printable ch (written f) c = fixed_printable ch f c
  printable ch (glyph k h e) c = keeps.tables.characters k h (rw e at c)
