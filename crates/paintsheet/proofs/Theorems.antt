-- What holds of a whole sheet in one call: of every answer, and all that is left of the lent buffers, that the call's contract permits.
use native.Mathlib.Omega.{arith}
use Prim.Native.Nat.{ℕ, ◌<◌}
use mathlib.Core.Bool.{true}
use mathlib.Core.List.{List}
use mathlib.Core.Path.{◌≡◌, refl, sym, ap, ◌∙◌}
use lib.ListN.{take, replicate, length-replicate}
use Rattle.ground.specs.Each.{every}
use Rattle.ground.specs.Judged.{Judged, FirstBad}
use Rattle.refusals.specs.FirstBroken.{Passed, first_broken}
use Rattle.refusals.specs.Rules.{checked}
use Rattle.refusals.proofs.Theorems.{accepted_iff}
use Rattle.picture.specs.Picture.{height, picture_cells, picture_colours}
use Rattle.picture.specs.Painted.{plain_rooms, coloured_rooms, call_rules, outside_sheet, too_little_room}
use Rattle.picture.proofs.Statements.{rows_of, bands, Holds, OneBand, Roomy, rows_lent, cells_left, OneColouredBand, RoomyColoured, coloured_rows_lent, coloured_cells_left, colours_left}
use Rattle.picture.proofs.AllOf.{AllOf}
use Rattle.picture.proofs.Laws.{cells_length, colours_length}
use Rattle.picture.proofs.Answers.{kept_on_refusal, holds_needed, call_refused, call_outside, call_short, call_passed}
use Rattle.picture.proofs.Theorems.{bands_join, painted_whole, painted_whole_coloured}
use Rattle.paint.specs.declared.Outcome.{Outcome}
use Rattle.paint.specs.Outcome.{outcome_of}
use Rattle.paint.proofs.Room.{image_keeps}
use Rattle.paint.proofs.Laws.{code_passed, code_refused}
use Rattle.bands.specs.Sheet.{sheet_room, sheet_scratch}
use Rattle.paintsheet.specs.PaintedSheet.{height_judged, sheet_verdict, sheet_coloured_verdict, SheetPainted, SheetPaintedColoured}
use Rattle.paintsheet.proofs.Laws.{no_rows, some_rows, same_height, same_left}

-- The answer: what check refuses is refused, with that code and place; else a band height of 0 is, with code 11 and place 1, else the first buffer that is short.
pub record SheetAsChecked (image : List ℕ) (band : ℕ) (lent : List Judged) (answer : Outcome) : Type 0 where
  pub refused : ((checked image).code ≡ 0 → ⊥) → answer ≡ record { code = (checked image).code; place = (checked image).place }
  pub no_rows : (checked image).code ≡ 0 → band ≡ 0 → answer ≡ record { code = outside_sheet; place = 1 }
  pub short : (checked image).code ≡ 0 → 0 < band → (place : ℕ) → FirstBad lent place → answer ≡ record { code = too_little_room; place = place }
  pub passed : (checked image).code ≡ 0 → 0 < band → every lent (λ j. j.good) ≡ true → answer ≡ record { code = 0; place = 0 }

as_checked :
    (image : List ℕ) (band : ℕ) (lent : List Judged) (answer : Outcome) → answer ≡ outcome_of (first_broken (call_rules image (height_judged band) lent)) →
    SheetAsChecked image band lent answer
unfolding outcome_of
as_checked image band lent answer a =
    let some : 0 < band → every (height_judged band) (λ j. j.good) ≡ true = λ h. some_rows band (λ z. omega (arith, h, z)) in
    record {
      refused = λ n. a ∙ ap outcome_of (call_refused image (height_judged band) lent n);
      no_rows = λ z h. a ∙ ap outcome_of (call_outside image (height_judged band) lent z 1 (no_rows band h));
      short = λ z h place b. a ∙ ap outcome_of (call_short image (height_judged band) lent z (some h) place b);
      passed = λ z h all. a ∙ ap outcome_of (call_passed image (height_judged band) lent z (some h) all);
    }

-- where the answer has code 0, the check accepts
accepted : (image : List ℕ) (band : ℕ) (lent : List Judged) → first_broken (call_rules image (height_judged band) lent) ≡ Passed → (checked image).code ≡ 0
accepted image band lent p = (accepted_iff image).1 (image_keeps image (height_judged band) lent _ refl p)

-- Without colours.

-- Any two answers that the contract of `paint_sheet` permits are equal: code and place, and each lent word afterwards.
pub sheet_one_answer :
    (image : List ℕ) (band : ℕ) (cells scratch : List ℕ) (r s : Outcome) (c d t u : List ℕ) →
    SheetPainted image band cells scratch r c t → SheetPainted image band cells scratch s d u →
    (r ≡ s) × (c ≡ d) × (t ≡ u)
sheet_one_answer image band cells scratch r s c d t u a b =
    (a.answered ∙ sym b.answered, a.in_cells ∙ sym b.in_cells, a.in_scratch ∙ sym b.in_scratch)

-- The band height does not matter, once it is not 0: two calls with the same buffers answer and leave the same.
pub any_band_height :
    (image : List ℕ) (a b : ℕ) → 0 < a → 0 < b → (cells scratch : List ℕ) (r s : Outcome) (c d t u : List ℕ) →
    SheetPainted image a cells scratch r c t → SheetPainted image b cells scratch s d u →
    (r ≡ s) × (c ≡ d) × (t ≡ u)
any_band_height image a b p q cells scratch r s c d t u one other =
    let same : sheet_verdict image a cells scratch ≡ sheet_verdict image b cells scratch = same_height image _ a b p q in (
      one.answered ∙ ap outcome_of same ∙ sym other.answered,
      one.in_cells ∙ same_left _ _ same _ cells ∙ sym other.in_cells,
      one.in_scratch ∙ same_left _ _ same _ scratch ∙ sym other.in_scratch,
    )

module _ (image : List ℕ) (band : ℕ) (cells scratch : List ℕ) (answer : Outcome) (cells' scratch' : List ℕ)
    (left : SheetPainted image band cells scratch answer cells' scratch') where
  -- The sheet is refused as check refuses, else a band height of 0 is, else the first buffer that is short; else it is painted.
  pub sheet_refuses_as_check : SheetAsChecked image band (plain_rooms (sheet_room image) (sheet_scratch image) cells scratch) answer
  sheet_refuses_as_check = as_checked image band _ answer left.answered

  -- A refusal leaves every lent buffer as it was.
  pub sheet_refusal_keeps : (answer.code ≡ 0 → ⊥) → (cells' ≡ cells) × (scratch' ≡ scratch)
  sheet_refusal_keeps n =
      let r = code_refused _ answer left.answered n in
      (left.in_cells ∙ kept_on_refusal _ _ cells _ _ r, left.in_scratch ∙ kept_on_refusal _ _ scratch _ _ r)

  module _ (painted : answer.code ≡ 0) where
    passed : sheet_verdict image band cells scratch ≡ Passed
    passed = code_passed image _ _ (sym (ap (λ (o : Outcome). o.code) left.answered) ∙ painted)

    -- Code 0: the needed cells are the picture, the needed scratch is zeros, and all beyond is as it was.
    pub sheet_is_picture :
        Holds (sheet_room image) (picture_cells image 0 (height image)) cells cells' × Holds (sheet_scratch image) (replicate (sheet_scratch image) 0) scratch scratch'
    sheet_is_picture = (
      rw left.in_cells (holds_needed _ _ cells _ _ (cells_length image 0 (height image)) refl passed),
      rw left.in_scratch (holds_needed _ _ scratch _ _ (length-replicate (sheet_scratch image) 0) refl passed),
    )

    -- Whatever the stated band height: the needed cells are the bands of the picture, of any heights that make up the sheet, one after the other.
    pub sheet_is_bands : (heights : List ℕ) → rows_of heights ≡ height image → take (sheet_room image) cells' ≡ bands (picture_cells image) 0 heights
    sheet_is_bands heights all =
        sheet_is_picture.0.needed ∙ ap (picture_cells image 0) (sym all) ∙ sym (bands_join image 0 heights).0

    -- "the sheet equals 01's bands joined": the needed cells are what `paint` leaves, called band by band with buffers that have room, whatever stood in them.
    pub sheet_is_painted_whole :
        (lent : List OneBand) → AllOf (Roomy image) lent → rows_lent lent ≡ height image → take (sheet_room image) cells' ≡ cells_left image 0 lent
    sheet_is_painted_whole lent roomy all =
        sheet_is_picture.0.needed ∙ sym (painted_whole image (accepted image band _ passed) lent roomy all)

-- With colours.

-- Any two answers that the contract of `paint_sheet_coloured` permits are equal.
pub coloured_sheet_one_answer :
    (image : List ℕ) (band : ℕ) (cells colours stamps scratch : List ℕ) (r s : Outcome) (c d k l m n t u : List ℕ) →
    SheetPaintedColoured image band cells colours stamps scratch r c k m t → SheetPaintedColoured image band cells colours stamps scratch s d l n u →
    (r ≡ s) × (c ≡ d) × (k ≡ l) × (m ≡ n) × (t ≡ u)
coloured_sheet_one_answer image band cells colours stamps scratch r s c d k l m n t u a b = (
  a.answered ∙ sym b.answered,
  a.in_cells ∙ sym b.in_cells,
  a.in_colours ∙ sym b.in_colours,
  a.in_stamps ∙ sym b.in_stamps,
  a.in_scratch ∙ sym b.in_scratch,
)

-- The band height does not matter, once it is not 0.
pub coloured_any_band_height :
    (image : List ℕ) (a b : ℕ) → 0 < a → 0 < b → (cells colours stamps scratch : List ℕ) (r s : Outcome) (c d k l m n t u : List ℕ) →
    SheetPaintedColoured image a cells colours stamps scratch r c k m t → SheetPaintedColoured image b cells colours stamps scratch s d l n u →
    (r ≡ s) × (c ≡ d) × (k ≡ l) × (m ≡ n) × (t ≡ u)
coloured_any_band_height image a b p q cells colours stamps scratch r s c d k l m n t u one other =
    let same : sheet_coloured_verdict image a cells colours stamps scratch ≡ sheet_coloured_verdict image b cells colours stamps scratch
    = same_height image _ a b p q in (
      one.answered ∙ ap outcome_of same ∙ sym other.answered,
      one.in_cells ∙ same_left _ _ same _ cells ∙ sym other.in_cells,
      one.in_colours ∙ same_left _ _ same _ colours ∙ sym other.in_colours,
      one.in_stamps ∙ same_left _ _ same _ stamps ∙ sym other.in_stamps,
      one.in_scratch ∙ same_left _ _ same _ scratch ∙ sym other.in_scratch,
    )

module _ (image : List ℕ) (band : ℕ) (cells colours stamps scratch : List ℕ) (answer : Outcome) (cells' colours' stamps' scratch' : List ℕ)
    (left : SheetPaintedColoured image band cells colours stamps scratch answer cells' colours' stamps' scratch') where
  -- The sheet is refused as check refuses, else a band height of 0 is, else the first buffer that is short; else it is painted.
  pub coloured_sheet_refuses_as_check : SheetAsChecked image band (coloured_rooms (sheet_room image) (sheet_scratch image) cells colours stamps scratch) answer
  coloured_sheet_refuses_as_check = as_checked image band _ answer left.answered

  -- A refusal leaves every lent buffer as it was.
  pub coloured_sheet_refusal_keeps : (answer.code ≡ 0 → ⊥) → (cells' ≡ cells) × (colours' ≡ colours) × (stamps' ≡ stamps) × (scratch' ≡ scratch)
  coloured_sheet_refusal_keeps n =
      let r = code_refused _ answer left.answered n in (
        left.in_cells ∙ kept_on_refusal _ _ cells _ _ r,
        left.in_colours ∙ kept_on_refusal _ _ colours _ _ r,
        left.in_stamps ∙ kept_on_refusal _ _ stamps _ _ r,
        left.in_scratch ∙ kept_on_refusal _ _ scratch _ _ r,
      )

  module _ (painted : answer.code ≡ 0) where
    coloured_passed : sheet_coloured_verdict image band cells colours stamps scratch ≡ Passed
    coloured_passed = code_passed image _ _ (sym (ap (λ (o : Outcome). o.code) left.answered) ∙ painted)

    -- Code 0: the needed cells and colours are the picture's, the needed stamps and scratch are zeros, and all beyond is as it was.
    pub coloured_sheet_is_picture :
        Holds (sheet_room image) (picture_cells image 0 (height image)) cells cells'
        × Holds (sheet_room image) (picture_colours image 0 (height image)) colours colours'
        × Holds (sheet_room image) (replicate (sheet_room image) 0) stamps stamps'
        × Holds (sheet_scratch image) (replicate (sheet_scratch image) 0) scratch scratch'
    coloured_sheet_is_picture = (
      rw left.in_cells (holds_needed _ _ cells _ _ (cells_length image 0 (height image)) refl coloured_passed),
      rw left.in_colours (holds_needed _ _ colours _ _ (colours_length image 0 (height image)) refl coloured_passed),
      rw left.in_stamps (holds_needed _ _ stamps _ _ (length-replicate (sheet_room image) 0) refl coloured_passed),
      rw left.in_scratch (holds_needed _ _ scratch _ _ (length-replicate (sheet_scratch image) 0) refl coloured_passed),
    )

    -- Whatever the stated band height: the needed cells and colours are the bands of the picture, of any heights that make up the sheet.
    pub coloured_sheet_is_bands :
        (heights : List ℕ) → rows_of heights ≡ height image →
        (take (sheet_room image) cells' ≡ bands (picture_cells image) 0 heights)
        × (take (sheet_room image) colours' ≡ bands (picture_colours image) 0 heights)
    coloured_sheet_is_bands heights all =
        let join = bands_join image 0 heights in (
          coloured_sheet_is_picture.0.needed ∙ ap (picture_cells image 0) (sym all) ∙ sym join.0,
          coloured_sheet_is_picture.1.needed ∙ ap (picture_colours image 0) (sym all) ∙ sym join.1,
        )

    -- "the sheet equals 01's bands joined": what `paint_coloured` leaves, called band by band with buffers that have room.
    pub coloured_sheet_is_painted_whole :
        (lent : List OneColouredBand) → AllOf (RoomyColoured image) lent → coloured_rows_lent lent ≡ height image →
        (take (sheet_room image) cells' ≡ coloured_cells_left image 0 lent) × (take (sheet_room image) colours' ≡ colours_left image 0 lent)
    coloured_sheet_is_painted_whole lent roomy all =
        let whole = painted_whole_coloured image (accepted image band _ coloured_passed) lent roomy all in
        (coloured_sheet_is_picture.0.needed ∙ sym whole.0, coloured_sheet_is_picture.1.needed ∙ sym whole.1)
