-- Rows inside the buffers, and what the answer for a whole sheet says.
use native.Mathlib.Omega.{arith}
use native.Mathlib.Nat.{le_refl, mul-le-mul}
use Prim.Native.Nat.{ℕ, ◌+◌, ◌*◌, ◌≤◌}
use mathlib.Core.List.{List}
use mathlib.Core.Logic.{◌⊎◌, inl, inr}
use mathlib.Core.Path.{◌≡◌, refl, ap, sym, ◌∙◌}
use lib.Dec.{eqb}
use lib.ListN.{length}
use borrow.Author.Tests.{eqb-true, eqb-false}
use Rattle.ground.specs.Judged.{Judged}
use Rattle.ground.proofs.Each.{by_bool}
use Rattle.layout.specs.Layout.{max_width}
use Rattle.refusals.specs.Rules.{checked, control_character}
use Rattle.refusals.specs.Accepted.{Keeps}
use Rattle.refusals.proofs.Theorems.{accepted_iff, known_code}
use Rattle.picture.specs.Picture.{width, height}
use Rattle.picture.specs.Painted.{room, scratch_room, too_little_room}
use Rattle.paint.specs.declared.Outcome.{Outcome}
use Rattle.paint.proofs.Laws.{code_passed}
use Rattle.rowtext.specs.Coloured.{band_text, coloured_room}
use Rattle.rowtext.proofs.Theorems.{band_room}
use Rattle.paintsheet.specs.PaintedSheet.{SheetPainted, SheetPaintedColoured}
use Rattle.paintsheet.proofs.Laws.{plain_ready, coloured_ready}
use Rattle.paintsheet.proofs.Theorems.{SheetAsChecked, sheet_refuses_as_check, coloured_sheet_refuses_as_check}
use Rattle.sheetshow.specs.Room.{band_rows, band_cells, band_bytes, scratch_words, Answered}

-- the text of so many rows has room in the output
pub text_fits :
    (n rows : ℕ) (cells colours out : List ℕ) → n ≤ max_width → rows ≤ band_rows → length out ≡ band_bytes → length (band_text n rows cells colours) ≤ length out
text_fits n rows cells colours out p q long =
    let row : 23 * n + 5 ≤ 23 * max_width + 5 = omega arith in
    let all : coloured_room n rows ≤ band_bytes = mul-le-mul q row in
    omega (arith, band_room n rows cells colours)

-- and ends within it
pub text_within :
    (n rows bytes : ℕ) (cells colours : List ℕ) → bytes ≡ length (band_text n rows cells colours) → n ≤ max_width → rows ≤ band_rows → bytes ≤ band_bytes
text_within n rows bytes cells colours same p q =
    let row : 23 * n + 5 ≤ 23 * max_width + 5 = omega arith in
    let all : coloured_room n rows ≤ band_bytes = mul-le-mul q row in
    omega (arith, band_room n rows cells colours, same)

-- Rows of a sheet that is painted whole are in its cells.
pub rows_inside : (n high first rows room : ℕ) → n * high ≤ room → first + rows ≤ high → n * (first + rows) ≤ room
rows_inside n high first rows room h p =
    let m : n * (first + rows) ≤ n * high = mul-le-mul (le_refl n) p in
    omega arith

-- Width and height as they are read of the image.
module _ (image : List ℕ) (v n : ℕ) (a : v ≡ width image) (b : n ≡ v) where
  pub within : width image ≤ max_width → n ≤ max_width
  within h = rw (b, a) h

  pub whole_inside : (x high room : ℕ) → x ≡ height image → high ≡ x → width image * height image ≤ room → n * high ≤ room
  whole_inside x high room c d h = rw (d, c, b, a) h

  module _ (k : Keeps image) where
    pub band_within : n ≤ max_width
    band_within = within k.header.width

    pub band_inside : (rows words : ℕ) → rows ≤ band_rows → words ≡ band_cells → n * rows ≤ words
    band_inside rows words q long = rw long (mul-le-mul band_within q)

-- Rows of an accepted image have room in the planes of the widest band, and the scratch is long enough for any.
module _ (image : List ℕ) (k : Keeps image) where
  pub band_fits : (rows words : ℕ) → rows ≤ band_rows → words ≡ band_cells → room image rows ≤ words
  band_fits rows words = band_inside image (width image) (width image) refl refl k rows words

  pub scratch_fits : (words : ℕ) → words ≡ scratch_words → scratch_room image ≤ words
  scratch_fits words long = omega (arith, k.header.runs, k.header.elements)

-- What the answer for a whole sheet says.

no_check_code : (code : ℕ) → (code ≤ 10) ⊎ (code ≡ control_character) → code ≡ too_little_room → ⊥
no_check_code code (inl low) e = omega arith
no_check_code code (inr other) e = omega arith

-- the check does not give 12: an image that is refused so is accepted
short_accepted :
    (image : List ℕ) (band : ℕ) (lent : List Judged) (answer : Outcome) → SheetAsChecked image band lent answer → answer.code ≡ too_little_room → Keeps image
short_accepted image band lent answer a e =
    (accepted_iff image).0
    (by_bool (eqb (checked image).code 0)
    (λ t. eqb-true _ _ t)
    (λ f.
    let same : answer.code ≡ (checked image).code = ap (λ (o : Outcome). o.code) (a.refused (eqb-false (checked image).code 0 f)) in
    absurd (no_check_code (checked image).code (known_code image) (sym same ∙ e))))

module _ (image : List ℕ) (band : ℕ) (cells scratch : List ℕ) (answer : Outcome) where
  pub plain_answered : (cells' scratch' : List ℕ) → SheetPainted image band cells scratch answer cells' scratch' → Answered image cells answer
  plain_answered cells' scratch' left = record {
    whole = λ z.
        let passed = code_passed image _ _ (sym (ap (λ (o : Outcome). o.code) left.answered) ∙ z) in
        let ready = plain_ready image band cells scratch _ refl passed in
        (ready.0.header.width, ready.2);
    accepted = short_accepted image band _ answer (sheet_refuses_as_check image band cells scratch answer cells' scratch' left);
  }

  pub coloured_answered :
      (colours stamps cells' colours' stamps' scratch' : List ℕ) →
      SheetPaintedColoured image band cells colours stamps scratch answer cells' colours' stamps' scratch' → Answered image cells answer
  coloured_answered colours stamps cells' colours' stamps' scratch' left = record {
    whole = λ z.
        let passed = code_passed image _ _ (sym (ap (λ (o : Outcome). o.code) left.answered) ∙ z) in
        let ready = coloured_ready image band cells scratch _ colours stamps refl passed in
        (ready.0.header.width, ready.2);
    accepted = short_accepted image band _ answer (coloured_sheet_refuses_as_check image band cells colours stamps scratch answer cells' colours' stamps' scratch' left);
  }

-- Code 0, for what follows the call, which leaves as many cells.
pub whole_shown :
    (image cells : List ℕ) (words : ℕ) (answer : Outcome) → Answered image cells answer → answer.code ≡ 0 → length cells ≡ words →
    width image * height image ≤ words
whole_shown image cells words answer a z same = rw (sym same) (a.whole z).1
