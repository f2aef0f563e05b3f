-- Rows inside a band's cells, what an accepted image keeps, and what it is known to have room for.
use native.Mathlib.Omega.{arith}
use native.Mathlib.Nat.{le_refl, mul-le-mul, mul-suc}
use Prim.Native.Nat.{ℕ, suc, ◌+◌, ◌*◌, ◌≤◌, ◌<◌}
use mathlib.Core.List.{List}
use mathlib.Core.Path.{◌≡◌, refl, ap, sym, ◌∙◌}
use lib.ListN.{length}
use mir.Val.{Fits}
use mir.Syntax.{w64}
use Rattle.refusals.specs.declared.Answer.{Answer}
use Rattle.refusals.specs.FirstBroken.{Verdict, Passed, first_broken}
use Rattle.refusals.specs.Rules.{rules, checked}
use Rattle.refusals.specs.Accepted.{Keeps}
use Rattle.refusals.proofs.Theorems.{accepted_iff, accepted_passes}
use Rattle.picture.specs.Picture.{width, height}
use Rattle.picture.specs.Painted.{room, scratch_room, plain_judged, band_rules}
use Rattle.paint.specs.declared.Outcome.{Outcome}
use Rattle.paint.proofs.Laws.{passed_first, code_passed}
use Rattle.paint.proofs.Room.{plain_ready}
use Rattle.paintsheet.specs.PaintedSheet.{SheetPainted}
use Rattle.paintsheet.proofs.Laws as sheet
use Rattle.sheetcells.specs.Bands.{band_rows, band_cells}

-- Row k of so many ends with the last of them, or before it.
module _ (width rows k : ℕ) (h : k < rows) where
  pub row_inside : width * k + width ≤ width * rows
  row_inside =
      let e : width * suc k ≡ width * k + width = mul-suc width k in
      let m : width * suc k ≤ width * rows = mul-le-mul (le_refl width) h in
      omega arith

  pub start_fits : width * rows ≤ band_cells → Fits w64 (width * k)
  start_fits b = record { fits = omega (arith, row_inside) }

-- so many rows of an accepted image have room in the cells of the widest band
module _ (image : List ℕ) (rows : ℕ) (k : Keeps image) (q : rows ≤ band_rows) where
  pub band_fits : (n : ℕ) → n ≡ width image → n * rows ≤ band_cells
  band_fits n is = rw is (mul-le-mul k.header.width q)

  pub band_room : (cells : List ℕ) → length cells ≡ band_cells → room image rows ≤ length cells
  band_room cells long = rw long (band_fits (width image) refl)

-- width and height as they are read of the image
pub whole_lines :
    (image : List ℕ) (v w x y : ℕ) → v ≡ width image → w ≡ v → x ≡ height image → y ≡ x → width image * height image ≤ band_cells → w * y ≤ band_cells
whole_lines image v w x y a b c d h = rw (d, c, b, a) h

-- what is not refused is accepted
pub accepted : (image : List ℕ) (answer : Answer) → answer ≡ checked image → answer.code ≡ 0 → Keeps image
accepted image answer e z = (accepted_iff image).0 (sym (ap (λ (a : Answer). a.code) e) ∙ z)

-- a band of no rows passes only where the scratch is long enough for any
pub scratch_fits :
    (image cells scratch : List ℕ) (v : Verdict) → Keeps image → v ≡ first_broken (band_rules image 0 0 (plain_judged image 0 cells scratch)) → v ≡ Passed →
    scratch_room image ≤ length scratch
scratch_fits image cells scratch v k e p =
    let passes : Passed ≡ first_broken (rules image) = sym (accepted_passes image ((accepted_iff image).1 k)) in
    (plain_ready image 0 0 cells scratch v (passed_first image Passed passes _ _ v refl e) p).3

-- code 0 of the call for a whole sheet: its rows have room in the cells
pub whole_fits :
    (image : List ℕ) (band : ℕ) (cells scratch : List ℕ) (answer : Outcome) (cells' scratch' : List ℕ) →
    SheetPainted image band cells scratch answer cells' scratch' → answer.code ≡ 0 → length cells ≡ band_cells → width image * height image ≤ band_cells
whole_fits image band cells scratch answer cells' scratch' left z long =
    let passed = code_passed image _ _ (sym (ap (λ (o : Outcome). o.code) left.answered) ∙ z) in
    rw long at (sheet.plain_ready image band cells scratch _ refl passed).2
