-- What the public calls of a whole sheet answer, and what they leave of each lent buffer: as the first rule that is broken refuses, or the sheet.
use native.Mathlib.Omega.{arith}
use Prim.Native.Nat.{ℕ, zero, suc, ◌+◌, ◌≤◌, ◌<◌}
use mathlib.Core.Bool.{true}
use mathlib.Core.List.{List, [], ◌∷◌, ◌++◌, append_assoc}
use mathlib.Core.Path.{◌≡◌, sym, ap, ◌∙◌}
use lib.ListN.{length, take, drop, replicate}
use borrow.Author.Tests.{ne_eqb}
use Rattle.std.specs.Prelude.{Some}
use Rattle.ground.specs.Each.{every}
use Rattle.ground.specs.Judged.{Judged, first_bad}
use Rattle.refusals.specs.FirstBroken.{Verdict, Passed, Refused, Rule, rule, first_broken}
use Rattle.refusals.specs.Rules.{rules}
use Rattle.refusals.specs.Accepted.{Keeps}
use Rattle.window.specs.declared.Lent.TheVariants.{Cells, All}
use Rattle.picture.specs.Picture.{height, picture_cells, picture_colours}
use Rattle.picture.specs.Painted.{room, outside_sheet, too_little_room, plain_rooms, coloured_rooms, call_rules, afterwards}
use Rattle.compose.specs.Painting.{LentPlanes}
use Rattle.paint.specs.declared.Outcome.{Outcome}
use Rattle.paint.specs.Outcome.{outcome_of}
use Rattle.paint.proofs.Room.{image_keeps, asked_good, lent_good, plain_long, coloured_long, part_length}
use Rattle.paint.proofs.Laws.{refused_before, passed_before, kept, holds_cells, holds_colours, holds_zeros}
use Rattle.bands.specs.Sheet.{sheet_room, sheet_scratch}
use Rattle.bands.specs.Stepped.{LentSheet}
use Rattle.paintsheet.specs.PaintedSheet.{height_judged, sheet_verdict, sheet_coloured_verdict, SheetPainted, SheetPaintedColoured}

-- The room that is wanted.

pub room_made : (image : List ℕ) (w n r : ℕ) → w ≡ height image → n ≡ w → r ≡ room image n → r ≡ sheet_room image
room_made image w n r a b c = rw (c, b, a)

-- Code 11 of the band height.

pub no_rows : (band : ℕ) → band ≡ 0 → first_bad (height_judged band) ≡ Some 1
unfolding height_judged first_bad
no_rows band e = rw e

pub some_rows : (band : ℕ) → (band ≡ 0 → ⊥) → every (height_judged band) (λ j. j.good) ≡ true
unfolding height_judged every
some_rows band n = rw (ne_eqb band 0 n)

pub rows_some : (band : ℕ) → every (height_judged band) (λ j. j.good) ≡ true → 0 < band
unfolding height_judged every
rows_some zero g = let z : ◌≡◌ {A = ℕ} 0 1 = cc in absurd (omega arith)
rows_some (suc n) g = omega arith

-- band heights that are not 0 come to one verdict
pub same_height :
    (image : List ℕ) (lent : List Judged) (a b : ℕ) → 0 < a → 0 < b →
    first_broken (call_rules image (height_judged a) lent) ≡ first_broken (call_rules image (height_judged b) lent)
unfolding height_judged
same_height image lent a b p q = rw (ne_eqb a 0 (λ z. omega (arith, p, z)), ne_eqb b 0 (λ z. omega (arith, q, z)))

pub same_left : (v w : Verdict) → v ≡ w → (needed lent : List ℕ) → afterwards v needed lent ≡ afterwards w needed lent
same_left v w e needed lent = ap (λ (x : Verdict). afterwards x needed lent) e

-- what the codes up to 11 look at
abbrev asked_rules : List ℕ → ℕ → List Rule
asked_rules image band = rules image ++ (rule outside_sheet (height_judged band) ∷ [])

module _ (image : List ℕ) (band : ℕ) (v : Verdict) (e : v ≡ first_broken (rules image)) where
  pub image_refused : (code place : ℕ) → v ≡ Refused code place → v ≡ first_broken (asked_rules image band)
  image_refused = refused_before (rules image) _ v e

  module _ (p : v ≡ Passed) where
    pub height_refused : band ≡ 0 → Refused outside_sheet 1 ≡ first_broken (asked_rules image band)
    unfolding first_broken
    height_refused z = passed_before (rules image) _ v e (Refused outside_sheet 1) p (rw (no_rows band z))

    pub height_passed : (band ≡ 0 → ⊥) → Passed ≡ first_broken (asked_rules image band)
    unfolding first_broken height_judged first_bad
    height_passed n = passed_before (rules image) _ v e Passed p (rw (ne_eqb band 0 n))

-- Then code 12.
module _ (image : List ℕ) (band : ℕ) (v : Verdict) (e : v ≡ first_broken (asked_rules image band)) (lent : List Judged) where
  in_order : call_rules image (height_judged band) lent ≡ asked_rules image band ++ (rule too_little_room lent ∷ [])
  unfolding call_rules
  in_order = sym (append_assoc (rules image) (rule outside_sheet (height_judged band) ∷ []) (rule too_little_room lent ∷ []))

  pub asked_refused : (code place : ℕ) → v ≡ Refused code place → v ≡ first_broken (call_rules image (height_judged band) lent)
  asked_refused code place r = rw in_order (refused_before (asked_rules image band) _ v e code place r)

  asked_passed :
      (w : Verdict) → v ≡ Passed → w ≡ first_broken (rule too_little_room lent ∷ []) → w ≡ first_broken (call_rules image (height_judged band) lent)
  asked_passed w p later = rw in_order (passed_before (asked_rules image band) _ v e w p later)

module _ (image : List ℕ) (band : ℕ) (v : Verdict) (e : v ≡ first_broken (asked_rules image band)) (p : v ≡ Passed)
    (wanted needed : ℕ) (is : wanted ≡ sheet_room image) (so : needed ≡ sheet_scratch image) (w : Verdict) where
  pub then_plain_rooms :
      (cells scratch : List ℕ) → w ≡ first_broken (rule too_little_room (plain_rooms wanted needed cells scratch) ∷ []) → w ≡ sheet_verdict image band cells scratch
  then_plain_rooms cells scratch l = asked_passed image band v e _ w p (rw (is, so) at l)

  pub then_coloured_rooms :
      (cells colours stamps scratch : List ℕ) →
      w ≡ first_broken (rule too_little_room (coloured_rooms wanted needed cells colours stamps scratch) ∷ []) →
      w ≡ sheet_coloured_verdict image band cells colours stamps scratch
  then_coloured_rooms cells colours stamps scratch l = asked_passed image band v e _ w p (rw (is, so) at l)

-- No rule is broken.
module _ (image : List ℕ) (band : ℕ) (cells scratch : List ℕ) (v : Verdict) where
  pub plain_ready :
      v ≡ sheet_verdict image band cells scratch → v ≡ Passed →
      Keeps image × (0 < band) × (sheet_room image ≤ length cells) × (sheet_scratch image ≤ length scratch)
  plain_ready e p =
      let long = plain_long _ _ cells scratch (lent_good image _ _ v e p) in
      (image_keeps image _ _ v e p, rows_some band (asked_good image _ _ v e p), long.0, long.1)

  pub coloured_ready :
      (colours stamps : List ℕ) → v ≡ sheet_coloured_verdict image band cells colours stamps scratch → v ≡ Passed →
      Keeps image × (0 < band) × (sheet_room image ≤ length cells) × (sheet_room image ≤ length colours)
      × (sheet_room image ≤ length stamps) × (sheet_scratch image ≤ length scratch)
  coloured_ready colours stamps e p =
      let long = coloured_long _ _ cells scratch colours stamps (lent_good image _ _ v e p) in
      (image_keeps image _ _ v e p, rows_some band (asked_good image _ _ v e p), long.0, long.1, long.2, long.3)

-- What is lent on is what the painter of the bands needs.
module _ (image : List ℕ) (wanted needed : ℕ) (is : wanted ≡ sheet_room image) (so : needed ≡ sheet_scratch image)
    (cells colours stamps scratch : List ℕ) (c : sheet_room image ≤ length cells) (s : sheet_scratch image ≤ length scratch) where
  pub plain_lent : LentSheet image Cells (take wanted cells) colours stamps (take needed scratch)
  unfolding LentPlanes
  plain_lent = record {
    lent_cells = part_length wanted (sheet_room image) cells is c;
    planes = tt;
    lent_scratch = part_length needed (sheet_scratch image) scratch so s;
  }

  pub coloured_lent :
      sheet_room image ≤ length colours → sheet_room image ≤ length stamps →
      LentSheet image All (take wanted cells) (take wanted colours) (take wanted stamps) (take needed scratch)
  unfolding LentPlanes
  coloured_lent k t = record {
    lent_cells = part_length wanted (sheet_room image) cells is c;
    planes = (part_length wanted (sheet_room image) colours is k, part_length wanted (sheet_room image) stamps is t);
    lent_scratch = part_length needed (sheet_scratch image) scratch so s;
  }

-- Plain.
module _ (image : List ℕ) (band : ℕ) (cells scratch : List ℕ) (v : Verdict) (e : v ≡ sheet_verdict image band cells scratch) (r : Outcome) (o : r ≡ outcome_of v) where
  pub plain_refused : (code place : ℕ) → v ≡ Refused code place → SheetPainted image band cells scratch r cells scratch
  plain_refused code place p =
      let d = sym e ∙ p in
      record {
        answered = rw e at o;
        in_cells = kept _ d _ cells;
        in_scratch = kept _ d _ scratch;
      }

  pub plain_painted :
      (cells' scratch' : List ℕ) → v ≡ Passed →
      cells' ≡ picture_cells image 0 (height image) ++ drop (sheet_room image) cells →
      scratch' ≡ replicate (sheet_scratch image) 0 ++ drop (sheet_scratch image) scratch →
      SheetPainted image band cells scratch r cells' scratch'
  plain_painted cells' scratch' p c s =
      let d = sym e ∙ p in
      record {
        answered = rw e at o;
        in_cells = holds_cells _ d image 0 (height image) cells c;
        in_scratch = holds_zeros _ d (sheet_scratch image) scratch s;
      }

-- Coloured.
module _ (image : List ℕ) (band : ℕ) (cells colours stamps scratch : List ℕ) (v : Verdict)
    (e : v ≡ sheet_coloured_verdict image band cells colours stamps scratch) (r : Outcome) (o : r ≡ outcome_of v) where
  pub coloured_refused : (code place : ℕ) → v ≡ Refused code place → SheetPaintedColoured image band cells colours stamps scratch r cells colours stamps scratch
  coloured_refused code place p =
      let d = sym e ∙ p in
      record {
        answered = rw e at o;
        in_cells = kept _ d _ cells;
        in_colours = kept _ d _ colours;
        in_stamps = kept _ d _ stamps;
        in_scratch = kept _ d _ scratch;
      }

  pub coloured_painted :
      (cells' colours' stamps' scratch' : List ℕ) → v ≡ Passed →
      cells' ≡ picture_cells image 0 (height image) ++ drop (sheet_room image) cells →
      colours' ≡ picture_colours image 0 (height image) ++ drop (sheet_room image) colours →
      stamps' ≡ replicate (sheet_room image) 0 ++ drop (sheet_room image) stamps →
      scratch' ≡ replicate (sheet_scratch image) 0 ++ drop (sheet_scratch image) scratch →
      SheetPaintedColoured image band cells colours stamps scratch r cells' colours' stamps' scratch'
  coloured_painted cells' colours' stamps' scratch' p c k t s =
      let d = sym e ∙ p in
      record {
        answered = rw e at o;
        in_cells = holds_cells _ d image 0 (height image) cells c;
        in_colours = holds_colours _ d image 0 (height image) colours k;
        in_stamps = holds_zeros _ d (sheet_room image) stamps t;
        in_scratch = holds_zeros _ d (sheet_scratch image) scratch s;
      }
