-- The verdict of painting's codes and 20, and what is left of each lent buffer.
use native.Mathlib.Omega.{arith}
use native.Mathlib.Nat.{mul-le-mul}
use Prim.Native.Nat.{ℕ, ◌+◌, ◌*◌, ◌≤◌, ◌<◌}
use mathlib.Core.List.{List, [], ◌++◌}
use mathlib.Core.Path.{◌≡◌, refl, sym, ap, ◌∙◌}
use lib.Dec.{leb}
use lib.ListN.{length, drop, replicate, length-append}
use borrow.Author.Tests.{leb-true, le-leb, lt-leb}
use mir.Val.{Fits}
use mir.Syntax.{w64}
use Rattle.std.specs.Prelude.{Ok, Err}
use Rattle.ground.specs.Judged.{Judged, first_bad}
use Rattle.ground.proofs.Each.{by_bool}
use Rattle.refusals.specs.FirstBroken.{Verdict, Passed, Refused, first_broken}
use Rattle.refusals.specs.Accepted.{Keeps}
use Rattle.refusals.proofs.FirstBroken.{and_then, broken_append}
use Rattle.picture.specs.Picture.{width, height, picture_cells, picture_colours}
use Rattle.picture.specs.Painted.{room, scratch_room, plain_judged, coloured_judged, paint_rules, plain_verdict, coloured_verdict, afterwards}
use Rattle.picture.proofs.Laws.{cells_length}
use Rattle.paint.proofs.Room.{plain_ready, coloured_ready}
use Rattle.paint.proofs.Laws.{kept, holds_zeros, holds_cells, holds_colours}
use Rattle.utf8.specs.Utf8.{written_at}
use Rattle.rowtext.specs.Text.{text_room}
use Rattle.rowtext.specs.Coloured.{coloured_room, band_text}
use Rattle.painttext.specs.declared.Written.{Written}
use Rattle.painttext.specs.PaintedText.{picture_text, picture_coloured_text, too_little_output, output_judged, output_rules, written_verdict, text_verdict, text_coloured_verdict}
use Rattle.painttext.specs.PaintedText.{written_of, TextPainted, TextPaintedColoured}
use Rattle.painttext.proofs.Rows.{text_room_lem, coloured_text_room, text_of_band, coloured_text_of_band}

-- the product of a sheet's limits fits
pub room_fits : (width rows a b : ℕ) → width ≤ 1024 → rows ≤ 32767 → a ≤ 23 → b ≤ 5 → Fits w64 (rows * (a * width + b))
room_fits width rows a b p q ha hb =
    let w : a * width ≤ 23 * 1024 = mul-le-mul ha p in
    let x : a * width + b ≤ 23557 = omega arith in
    let m : rows * (a * width + b) ≤ 32767 * 23557 = mul-le-mul q x in
    record { fits = omega arith }

-- a verdict and a later one that both pass
both_pass : (v w : Verdict) → and_then v w ≡ Passed → (v ≡ Passed) × (w ≡ Passed)
both_pass (Ok passed) w e = (refl, e)
both_pass (Err refusal) w e = let z : ◌≡◌ {A = ℕ} 0 1 = cc in absurd (omega arith)

-- code 20

module _ (wanted : ℕ) (out : List ℕ) where
  pub output_short : length out < wanted → Refused too_little_output 0 ≡ first_broken (output_rules wanted out)
  unfolding first_broken first_bad output_judged
  output_short s = rw (lt-leb _ _ s)

  pub output_long : wanted ≤ length out → Passed ≡ first_broken (output_rules wanted out)
  unfolding first_broken first_bad output_judged
  output_long l = rw (le-leb _ _ l)

  long_output : first_broken (output_rules wanted out) ≡ Passed → wanted ≤ length out
  unfolding first_broken first_bad output_judged
  long_output e =
      by_bool (leb wanted (length out))
      (λ t. leb-true _ _ t)
      (λ f. let r : Refused too_little_output 0 ≡ Passed = rw f at e in let z : ◌≡◌ {A = ℕ} 0 1 = cc in absurd (omega arith))

-- Painting's codes, then 20, whatever the buffers.
module _ (image : List ℕ) (first rows : ℕ) (lent : List Judged) (wanted : ℕ) (out : List ℕ) where
  both : written_verdict image first rows lent wanted out ≡ and_then (first_broken (paint_rules image first rows lent)) (first_broken (output_rules wanted out))
  unfolding written_verdict
  both = broken_append (paint_rules image first rows lent) (output_rules wanted out)

  module _ (v : Verdict) (e : v ≡ first_broken (paint_rules image first rows lent)) where
    pub refused_before : (code place : ℕ) → v ≡ Refused code place → v ≡ written_verdict image first rows lent wanted out
    refused_before code place r = r ∙ sym (rw (sym e ∙ r) at both)

    pub then_output :
        (w : Verdict) (n : ℕ) → v ≡ Passed → n ≡ wanted → w ≡ first_broken (output_rules n out) → w ≡ written_verdict image first rows lent wanted out
    then_output w n p is o = (rw is at o) ∙ sym (rw (sym e ∙ p) at both)

  passed_both :
      (v : Verdict) → v ≡ written_verdict image first rows lent wanted out → v ≡ Passed →
      (first_broken (paint_rules image first rows lent) ≡ Passed) × (wanted ≤ length out)
  passed_both v e p =
      let b = both_pass (first_broken (paint_rules image first rows lent)) (first_broken (output_rules wanted out)) (sym both ∙ sym e ∙ p) in
      (b.0, long_output wanted out b.1)

-- an accepted sheet is within its limits
limits : (image : List ℕ) (first rows : ℕ) → Keeps image → first + rows ≤ height image → (width image ≤ 1024) × (rows ≤ 32767)
limits image first rows k h = (k.header.width, omega (arith, k.header.height))

pub within :
    (image : List ℕ) (first rows : ℕ) (cells scratch : List ℕ) (v : Verdict) → v ≡ plain_verdict image first rows cells scratch → v ≡ Passed →
    (width image ≤ 1024) × (rows ≤ 32767)
within image first rows cells scratch v e p = let r = plain_ready image first rows cells scratch v e p in limits image first rows r.0 r.1

pub coloured_within :
    (image : List ℕ) (first rows : ℕ) (cells colours stamps scratch : List ℕ) (v : Verdict) → v ≡ coloured_verdict image first rows cells colours stamps scratch → v ≡ Passed →
    (width image ≤ 1024) × (rows ≤ 32767)
coloured_within image first rows cells colours stamps scratch v e p =
    let r = coloured_ready image first rows cells scratch v colours stamps e p in
    limits image first rows r.0 r.1

-- the cells that were painted have room for the rows
cells_room : (image : List ℕ) (first rows n : ℕ) (cells painted : List ℕ) → n ≡ width image → painted ≡ picture_cells image first rows ++ drop (room image rows) cells → n * rows ≤ length painted
cells_room image first rows n cells painted is c =
    let long : length painted ≡ length (picture_cells image first rows) + length (drop (room image rows) cells) = ap length c ∙ length-append (picture_cells image first rows) (drop (room image rows) cells) in
    rw is (omega (arith, cells_length image first rows))

-- a text from the start of the output on
holds_text : (v : Verdict) → v ≡ Passed → (text written out : List ℕ) {after : List ℕ} → written ≡ text → after ≡ written_at 0 written out → after ≡ afterwards v text out
unfolding afterwards written_at
holds_text v e text written out same t = let z : 0 + length text ≡ length text = omega arith in t ∙ rw (same, e, z)

-- what is answered

refused_answer : (v w : Verdict) (r : Written) (code place bytes : ℕ) → v ≡ w → w ≡ Refused code place → r ≡ written_of v 0 → r ≡ written_of w bytes
unfolding written_of
refused_answer v w r code place bytes e d o = o ∙ rw (e, d)

written_answer : (v w : Verdict) (r : Written) (bytes count : ℕ) → v ≡ w → bytes ≡ count → r ≡ written_of v bytes → r ≡ written_of w count
written_answer v w r bytes count e c o = o ∙ rw (e, c)

-- Plain.
module _ (image : List ℕ) (first rows : ℕ) (cells scratch out : List ℕ) (v : Verdict) (e : v ≡ text_verdict image first rows cells scratch out) where
  pub text_refused : (r : Written) (code place : ℕ) → r ≡ written_of v 0 → v ≡ Refused code place → TextPainted image first rows cells scratch out r cells scratch out
  text_refused r code place o p =
      let d = sym e ∙ p in
      record {
        answered = refused_answer _ _ r code place _ e d o;
        in_cells = kept _ d _ cells;
        in_scratch = kept _ d _ scratch;
        in_out = kept _ d _ out;
      }

  module _ (p : v ≡ Passed) where
    passed : (plain_verdict image first rows cells scratch ≡ Passed) × (text_room (width image) rows ≤ length out)
    passed = passed_both image first rows (plain_judged image rows cells scratch) (text_room (width image) rows) out v e p

    pub ready : Keeps image × (first + rows ≤ height image) × (room image rows ≤ length cells) × (scratch_room image ≤ length scratch)
    ready = plain_ready image first rows cells scratch (plain_verdict image first rows cells scratch) refl passed.0

    module _ (cells' : List ℕ) (n : ℕ) (is : n ≡ width image) (c : cells' ≡ picture_cells image first rows ++ drop (room image rows) cells) where
      left_cells : cells' ≡ afterwards (text_verdict image first rows cells scratch out) (picture_cells image first rows) cells
      left_cells = holds_cells _ (sym e ∙ p) image first rows cells c

      text : band_text n rows cells' [] ≡ picture_text image first rows
      text = rw (is, left_cells) (text_of_band image first rows _ (sym e ∙ p) cells [])

      pub band_fits : (n * rows ≤ length cells') × (length (band_text n rows cells' []) ≤ length out)
      band_fits = (cells_room image first rows n cells cells' is c, rw text (omega (arith, text_room_lem image first rows, passed.1)))

      pub text_painted :
          (r : Written) (bytes : ℕ) (scratch' out' : List ℕ) → scratch' ≡ replicate (scratch_room image) 0 ++ drop (scratch_room image) scratch →
          bytes ≡ length (band_text n rows cells' []) → out' ≡ written_at 0 (band_text n rows cells' []) out → r ≡ written_of v bytes →
          TextPainted image first rows cells scratch out r cells' scratch' out'
      text_painted r bytes scratch' out' s b t o =
          let d = sym e ∙ p in
          record {
            answered = written_answer _ _ r bytes _ e (b ∙ ap length text) o;
            in_cells = left_cells;
            in_scratch = holds_zeros _ d (scratch_room image) scratch s;
            in_out = holds_text _ d (picture_text image first rows) (band_text n rows cells' []) out text t;
          }

-- Coloured.
module _ (image : List ℕ) (first rows : ℕ) (cells colours stamps scratch out : List ℕ) (v : Verdict) (e : v ≡ text_coloured_verdict image first rows cells colours stamps scratch out) where
  pub coloured_text_refused :
      (r : Written) (code place : ℕ) → r ≡ written_of v 0 → v ≡ Refused code place →
      TextPaintedColoured image first rows cells colours stamps scratch out r cells colours stamps scratch out
  coloured_text_refused r code place o p =
      let d = sym e ∙ p in
      record {
        answered = refused_answer _ _ r code place _ e d o;
        in_cells = kept _ d _ cells;
        in_colours = kept _ d _ colours;
        in_stamps = kept _ d _ stamps;
        in_scratch = kept _ d _ scratch;
        in_out = kept _ d _ out;
      }

  module _ (p : v ≡ Passed) where
    coloured_passed : (coloured_verdict image first rows cells colours stamps scratch ≡ Passed) × (coloured_room (width image) rows ≤ length out)
    coloured_passed = passed_both image first rows (coloured_judged image rows cells colours stamps scratch) (coloured_room (width image) rows) out v e p

    pub coloured_band_ready :
        Keeps image × (first + rows ≤ height image) × (room image rows ≤ length cells) × (room image rows ≤ length colours)
        × (room image rows ≤ length stamps) × (scratch_room image ≤ length scratch)
    coloured_band_ready =
        coloured_ready image first rows cells scratch (coloured_verdict image first rows cells colours stamps scratch) colours stamps refl coloured_passed.0

    module _ (cells' colours' : List ℕ) (n : ℕ) (is : n ≡ width image) (c : cells' ≡ picture_cells image first rows ++ drop (room image rows) cells)
        (k : colours' ≡ picture_colours image first rows ++ drop (room image rows) colours) where
      left_planes :
          (cells' ≡ afterwards (text_coloured_verdict image first rows cells colours stamps scratch out) (picture_cells image first rows) cells)
          × (colours' ≡ afterwards (text_coloured_verdict image first rows cells colours stamps scratch out) (picture_colours image first rows) colours)
      left_planes = (holds_cells _ (sym e ∙ p) image first rows cells c, holds_colours _ (sym e ∙ p) image first rows colours k)

      coloured_text : band_text n rows cells' colours' ≡ picture_coloured_text image first rows
      coloured_text = rw (is, left_planes.0, left_planes.1) (coloured_text_of_band image first rows _ (sym e ∙ p) cells colours)

      pub coloured_band_fits : (n * rows ≤ length cells') × (length (band_text n rows cells' colours') ≤ length out)
      coloured_band_fits = (
        cells_room image first rows n cells cells' is c,
        rw coloured_text (omega (arith, coloured_text_room image first rows, coloured_passed.1)),
      )

      pub coloured_text_painted :
          (r : Written) (bytes : ℕ) (stamps' scratch' out' : List ℕ) →
          stamps' ≡ replicate (room image rows) 0 ++ drop (room image rows) stamps →
          scratch' ≡ replicate (scratch_room image) 0 ++ drop (scratch_room image) scratch →
          bytes ≡ length (band_text n rows cells' colours') → out' ≡ written_at 0 (band_text n rows cells' colours') out → r ≡ written_of v bytes →
          TextPaintedColoured image first rows cells colours stamps scratch out r cells' colours' stamps' scratch' out'
      coloured_text_painted r bytes stamps' scratch' out' m s b t o =
          let d = sym e ∙ p in
          record {
            answered = written_answer _ _ r bytes _ e (b ∙ ap length coloured_text) o;
            in_cells = left_planes.0;
            in_colours = left_planes.1;
            in_stamps = holds_zeros _ d (room image rows) stamps m;
            in_scratch = holds_zeros _ d (scratch_room image) scratch s;
            in_out = holds_text _ d (picture_coloured_text image first rows) (band_text n rows cells' colours') out coloured_text t;
          }
