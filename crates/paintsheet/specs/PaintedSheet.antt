-- "a call that checks once and paints all rows with a stated band height", plain or coloured: what it answers, and each lent word afterwards.
use Rattle.std.specs.Prelude.{ℕ, not, List, [], ◌∷◌, ◌≡◌, eqb, replicate}
use Rattle.ground.specs.Judged.{Judged, judged}
use Rattle.refusals.specs.FirstBroken.{Verdict, first_broken}
use Rattle.picture.specs.Picture.{height, picture_cells, picture_colours}
use Rattle.picture.specs.Painted.{plain_rooms, coloured_rooms, call_rules, afterwards}
use Rattle.paint.specs.declared.Outcome.{Outcome}
use Rattle.paint.specs.Outcome.{outcome_of}
use Rattle.bands.specs.Sheet.{sheet_room, sheet_scratch}

-- "Refusals: band height 0 is 11, place 1; room is 12."

unfoldable pub height_judged : ℕ → List Judged
height_judged band = judged 1 (not (eqb band 0)) ∷ []

abbrev pub sheet_verdict : List ℕ → ℕ → List ℕ → List ℕ → Verdict
sheet_verdict image band cells scratch =
    first_broken (call_rules image (height_judged band) (plain_rooms (sheet_room image) (sheet_scratch image) cells scratch))

abbrev pub sheet_coloured_verdict : List ℕ → ℕ → List ℕ → List ℕ → List ℕ → List ℕ → Verdict
sheet_coloured_verdict image band cells colours stamps scratch =
    first_broken (call_rules image (height_judged band) (coloured_rooms (sheet_room image) (sheet_scratch image) cells colours stamps scratch))

-- What `paint_sheet` promises: its answer, and each lent word afterwards, by what was lent. "success zeroes stamps and the needed scratch"
pub record SheetPainted (image : List ℕ) (band : ℕ) (cells scratch : List ℕ) (answer : Outcome) (cells' scratch' : List ℕ) : Type 0 where
  pub answered : answer ≡ outcome_of (sheet_verdict image band cells scratch)
  pub in_cells : cells' ≡ afterwards (sheet_verdict image band cells scratch) (picture_cells image 0 (height image)) cells
  pub in_scratch : scratch' ≡ afterwards (sheet_verdict image band cells scratch) (replicate (sheet_scratch image) 0) scratch

-- What `paint_sheet_coloured` promises.
pub record SheetPaintedColoured
    (image : List ℕ) (band : ℕ) (cells colours stamps scratch : List ℕ) (answer : Outcome) (cells' colours' stamps' scratch' : List ℕ) : Type 0 where
  pub answered : answer ≡ outcome_of (sheet_coloured_verdict image band cells colours stamps scratch)
  pub in_cells : cells' ≡ afterwards (sheet_coloured_verdict image band cells colours stamps scratch) (picture_cells image 0 (height image)) cells
  pub in_colours : colours' ≡ afterwards (sheet_coloured_verdict image band cells colours stamps scratch) (picture_colours image 0 (height image)) colours
  pub in_stamps : stamps' ≡ afterwards (sheet_coloured_verdict image band cells colours stamps scratch) (replicate (sheet_room image) 0) stamps
  pub in_scratch : scratch' ≡ afterwards (sheet_coloured_verdict image band cells colours stamps scratch) (replicate (sheet_scratch image) 0) scratch
