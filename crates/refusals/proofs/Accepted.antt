-- Each rule by itself: it finds nothing exactly where the image keeps it.
use native.Mathlib.Omega.{arith}
use Prim.Native.Nat.{ℕ, ◌*◌, ◌≤◌, ◌<◌}
use mathlib.Core.Bool.{Bool, true, false}
use mathlib.Core.List.{List, [], ◌∷◌}
use mathlib.Core.Logic.{◌↔◌}
use mathlib.Core.Path.{◌≡◌, refl, sym, ◌∙◌}
use lib.Dec.{eqb, leb}
use lib.ListN.{length}
use borrow.Author.Tests.{le-leb, leb-true, eq-eqb, eqb-true}
use Rattle.std.specs.Prelude.{Option, Some, None}
use Rattle.ground.specs.Judged.{judged, first_bad}
use Rattle.ground.proofs.First.{found_none}
use Rattle.ground.proofs.Judged.{one_judged}
use Rattle.glyph.specs.Width.{range_count}
use Rattle.glyph.specs.Ranges.{RangeGood}
use Rattle.glyph.specs.Ranges as glyph
use Rattle.glyph.proofs.Theorems.{broken_placed, ranges_good_iff}
use Rattle.layout.specs.declared.Tables.{Tables}
use Rattle.layout.specs.Layout.{header_size, header_runs, range_size}
use Rattle.layout.specs.Tables.{word, record_at, tables_of, wanted_length}
use Rattle.image.proofs.Theorems.{span_whole}
use Rattle.rows.proofs.Windows.{clash}
use Rattle.things.specs.Things.{ranges_of, run_count}
use Rattle.refusals.specs.Rules.{short_judged, length_judged, ranges_judged, runs_judged}

-- A test by itself.
one_iff : (place : ℕ) (good : Bool) → (first_bad (judged place good ∷ []) ≡ None) ↔ (good ≡ true)
one_iff place true = (λ h. refl, λ h. one_judged place true)
one_iff place false = (λ h. clash refl (found_none true place (sym (one_judged place false) ∙ h)), λ h. clash h refl)

pub short_iff : (image : List ℕ) → (first_bad (short_judged image) ≡ None) ↔ (header_size ≤ length image)
unfolding short_judged
short_iff image =
    let one = one_iff 0 (leb header_size (length image)) in
    (λ h. leb-true _ _ (one.0 h), λ h. one.1 (le-leb _ _ h))

pub length_iff : (image : List ℕ) → (first_bad (length_judged image) ≡ None) ↔ (length image ≡ wanted_length image)
unfolding length_judged
length_iff image =
    let one = one_iff (wanted_length image) (eqb (length image) (wanted_length image)) in
    (λ h. eqb-true _ _ (one.0 h), λ h. one.1 (eq-eqb _ _ h))

pub runs_iff : (image : List ℕ) (ts : Tables) → (first_bad (runs_judged image ts) ≡ None) ↔ (run_count image ts ≤ word image header_runs)
unfolding runs_judged
runs_iff image ts =
    let one = one_iff header_runs (leb (run_count image ts) (word image header_runs)) in
    (λ h. leb-true _ _ (one.0 h), λ h. one.1 (le-leb _ _ h))

-- Ranges of which none is found to be broken.
pub ranges_kept : (image : List ℕ) (ts : Tables) → first_bad (ranges_judged image ts) ≡ None → glyph.first_broken (ranges_of image ts) ≡ None
unfolding ranges_judged
ranges_kept image ts e = by (glyph.first_broken (ranges_of image ts)) (sym (broken_placed (record_at ts.ranges) (ranges_of image ts)) ∙ e)
  where
    by : (f : Option ℕ) → glyph.placed (record_at ts.ranges) f ≡ None → f ≡ None
    by None h = refl
    by (Some k) h = let z : ◌≡◌ {A = ℕ} 0 1 = cc in absurd (omega arith)

-- The range rule: there are as many ranges as the header says where the length is right.

range_count_lem : (image : List ℕ) → length image ≡ wanted_length image → range_count (ranges_of image (tables_of image)) ≡ (tables_of image).ranges.count
unfolding tables_of wanted_length
range_count_lem image h =
    let t = (tables_of image).ranges in
    let s : t.size ≡ range_size = refl in
    let l : length (ranges_of image (tables_of image)) ≡ t.count * t.size =
    span_whole image t (record { start = 0; count = t.count }) (omega arith) (omega arith) in
    let m : length (ranges_of image (tables_of image)) ≡ t.count * 3 = l in
    omega arith

pub ranges_iff :
    (image : List ℕ) → length image ≡ wanted_length image →
    (first_bad (ranges_judged image (tables_of image)) ≡ None)
    ↔ ((k : ℕ) → k < (tables_of image).ranges.count → RangeGood (ranges_of image (tables_of image)) k)
unfolding ranges_judged
ranges_iff image h =
    let ts = tables_of image in
    let n = range_count_lem image h in
    let good = ranges_good_iff (ranges_of image ts) in (
      (λ e k p. good.0 (ranges_kept image ts e) k (omega arith)),
      (λ g. broken_placed (record_at ts.ranges) (ranges_of image ts) ∙ rw (good.1 (λ k p. g k (omega arith)))),
    )
