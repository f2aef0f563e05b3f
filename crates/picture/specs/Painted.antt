-- What `paint` and `paint_coloured` answer, and each lent word afterwards: refused, and all as before; or the band.
use Rattle.std.specs.Prelude.{ℕ, ◌+◌, ◌*◌, List, [], ◌∷◌, ◌++◌, length, drop, replicate, leb, Ok, Err}
use Rattle.ground.specs.Judged.{Judged, judged}
use Rattle.layout.specs.Layout.{header_runs, header_elements}
use Rattle.layout.specs.Tables.{word}
use Rattle.refusals.specs.FirstBroken.{Verdict, Passed, Refused, Rule, rule, first_broken}
use Rattle.refusals.specs.Rules.{rules}
use Rattle.picture.specs.Picture.{width, height, picture_cells, picture_colours}

-- "Room: width × rows words each, scratch 8 × run capacity + elements."

abbrev pub room : List ℕ → ℕ → ℕ
room image rows = width image * rows

abbrev pub scratch_room : List ℕ → ℕ
scratch_room image = 8 * word image header_runs + word image header_elements

-- the codes

abbrev pub outside_sheet : ℕ
outside_sheet = 11

abbrev pub too_little_room : ℕ
too_little_room = 12

-- 11: "first band row + rows > height", place 0
unfoldable pub band_judged : List ℕ → ℕ → ℕ → List Judged
band_judged image first rows = judged 0 (leb (first + rows) (height image)) ∷ []

-- 12: "a lent buffer is short": "1 cells, 2 colours, 3 stamps, 4 scratch; the first short one"

abbrev pub room_judged : ℕ → ℕ → List ℕ → Judged
room_judged place wanted lent = judged place (leb wanted (length lent))

-- where so many words are wanted of each plane, and so many of scratch
unfoldable pub plain_rooms : ℕ → ℕ → List ℕ → List ℕ → List Judged
plain_rooms words needed cells scratch = room_judged 1 words cells ∷ room_judged 4 needed scratch ∷ []

unfoldable pub coloured_rooms : ℕ → ℕ → List ℕ → List ℕ → List ℕ → List ℕ → List Judged
coloured_rooms words needed cells colours stamps scratch =
    room_judged 1 words cells ∷ room_judged 2 words colours ∷ room_judged 3 words stamps ∷ room_judged 4 needed scratch ∷ []

-- of a band
abbrev pub plain_judged : List ℕ → ℕ → List ℕ → List ℕ → List Judged
plain_judged image rows cells scratch = plain_rooms (room image rows) (scratch_room image) cells scratch

abbrev pub coloured_judged : List ℕ → ℕ → List ℕ → List ℕ → List ℕ → List ℕ → List Judged
coloured_judged image rows cells colours stamps scratch =
    coloured_rooms (room image rows) (scratch_room image) cells colours stamps scratch

-- "Check gives 1 to 10, paint 1 to 12.": what 11 looks at, and what 12

abbrev pub lent_rules : List Judged → List Judged → List Rule
lent_rules asked lent = rule outside_sheet asked ∷ rule too_little_room lent ∷ []

unfoldable pub call_rules : List ℕ → List Judged → List Judged → List Rule
call_rules image asked lent = rules image ++ lent_rules asked lent

abbrev pub band_rules : List ℕ → ℕ → ℕ → List Judged → List Rule
band_rules image first rows lent = lent_rules (band_judged image first rows) lent

abbrev pub paint_rules : List ℕ → ℕ → ℕ → List Judged → List Rule
paint_rules image first rows lent = call_rules image (band_judged image first rows) lent

abbrev pub plain_verdict : List ℕ → ℕ → ℕ → List ℕ → List ℕ → Verdict
plain_verdict image first rows cells scratch = first_broken (paint_rules image first rows (plain_judged image rows cells scratch))

abbrev pub coloured_verdict : List ℕ → ℕ → ℕ → List ℕ → List ℕ → List ℕ → List ℕ → Verdict
coloured_verdict image first rows cells colours stamps scratch =
    first_broken (paint_rules image first rows (coloured_judged image rows cells colours stamps scratch))

-- "the needed part .. holds ..; all beyond is unchanged"; on a refusal all is
unfoldable pub afterwards : Verdict → List ℕ → List ℕ → List ℕ
afterwards (Ok passed) needed lent = needed ++ drop (length needed) lent
afterwards (Err refusal) needed lent = lent

-- "On success the needed part of cells and colours holds the band, of stamps and scratch holds zeros"

pub record Painted : Type 0 where
  pub verdict : Verdict
  pub cells : List ℕ
  pub scratch : List ℕ

unfoldable pub painted : List ℕ → ℕ → ℕ → List ℕ → List ℕ → Painted
painted image first rows cells scratch = record {
  verdict = verdict;
  cells = afterwards verdict (picture_cells image first rows) cells;
  scratch = afterwards verdict (replicate (scratch_room image) 0) scratch;
}
  where
    verdict : Verdict
    verdict = plain_verdict image first rows cells scratch

pub record PaintedColoured : Type 0 where
  pub verdict : Verdict
  pub cells : List ℕ
  pub colours : List ℕ
  pub stamps : List ℕ
  pub scratch : List ℕ

unfoldable pub painted_coloured : List ℕ → ℕ → ℕ → List ℕ → List ℕ → List ℕ → List ℕ → PaintedColoured
painted_coloured image first rows cells colours stamps scratch = record {
  verdict = verdict;
  cells = afterwards verdict (picture_cells image first rows) cells;
  colours = afterwards verdict (picture_colours image first rows) colours;
  stamps = afterwards verdict (replicate (room image rows) 0) stamps;
  scratch = afterwards verdict (replicate (scratch_room image) 0) scratch;
}
  where
    verdict : Verdict
    verdict = coloured_verdict image first rows cells colours stamps scratch
