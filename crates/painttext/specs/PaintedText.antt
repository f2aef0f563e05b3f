-- "a call that paints a band and writes it as UTF-8 text", plain or coloured: what it answers, and each lent word and byte afterwards.
use Rattle.std.specs.Prelude.{ℕ, List, [], ◌∷◌, ◌++◌, ◌≡◌, length, replicate, leb, Ok, Err}
use Rattle.ground.specs.Each.{numbers, each}
use Rattle.ground.specs.Judged.{Judged, judged}
use Rattle.refusals.specs.FirstBroken.{Verdict, Passed, Refused, Rule, rule, first_broken}
use Rattle.picture.specs.Picture.{width, picture_row, picture_cells, picture_colours}
use Rattle.picture.specs.Painted.{room, scratch_room, plain_judged, coloured_judged, paint_rules, afterwards}
use Rattle.rowtext.specs.Text.{row_text, text_room}
use Rattle.rowtext.specs.Coloured.{coloured_row, coloured_room}
use Rattle.painttext.specs.declared.Written.{Written}

-- the text of so many rows of the picture, from a first on

unfoldable pub picture_text : List ℕ → ℕ → ℕ → List ℕ
picture_text image first rows = each (numbers first rows) (λ y. row_text (picture_row image y).cells)

unfoldable pub picture_coloured_text : List ℕ → ℕ → ℕ → List ℕ
picture_coloured_text image first rows = each (numbers first rows) (λ y. coloured_row (picture_row image y).cells (picture_row image y).colours)

-- "Refusals: 20, place 0, output under rows × (4 × width + 1) bytes (coloured: a room stated in docs/), after all of 01's"

abbrev pub too_little_output : ℕ
too_little_output = 20

unfoldable pub output_judged : ℕ → List ℕ → List Judged
output_judged wanted out = judged 0 (leb wanted (length out)) ∷ []

abbrev pub output_rules : ℕ → List ℕ → List Rule
output_rules wanted out = rule too_little_output (output_judged wanted out) ∷ []

unfoldable pub written_verdict : List ℕ → ℕ → ℕ → List Judged → ℕ → List ℕ → Verdict
written_verdict image first rows lent wanted out = first_broken (paint_rules image first rows lent ++ output_rules wanted out)

abbrev pub text_verdict : List ℕ → ℕ → ℕ → List ℕ → List ℕ → List ℕ → Verdict
text_verdict image first rows cells scratch out =
    written_verdict image first rows (plain_judged image rows cells scratch) (text_room (width image) rows) out

abbrev pub text_coloured_verdict : List ℕ → ℕ → ℕ → List ℕ → List ℕ → List ℕ → List ℕ → List ℕ → Verdict
text_coloured_verdict image first rows cells colours stamps scratch out =
    written_verdict image first rows (coloured_judged image rows cells colours stamps scratch) (coloured_room (width image) rows) out

-- "The bytes written are answered"; on a refusal "no byte is written"
unfoldable pub written_of : Verdict → ℕ → Written
written_of (Ok passed) bytes = record { code = 0; place = 0; bytes = bytes }
written_of (Err refusal) bytes = record { code = refusal.code; place = refusal.place; bytes = 0 }

-- What `paint_text` promises: its answer, and each lent word and byte afterwards, by what was lent.
pub record TextPainted (image : List ℕ) (first rows : ℕ) (cells scratch out : List ℕ) (answer : Written) (cells' scratch' out' : List ℕ) : Type 0 where
  pub answered : answer ≡ written_of (text_verdict image first rows cells scratch out) (length (picture_text image first rows))
  pub in_cells : cells' ≡ afterwards (text_verdict image first rows cells scratch out) (picture_cells image first rows) cells
  pub in_scratch : scratch' ≡ afterwards (text_verdict image first rows cells scratch out) (replicate (scratch_room image) 0) scratch
  pub in_out : out' ≡ afterwards (text_verdict image first rows cells scratch out) (picture_text image first rows) out

-- What `paint_text_coloured` promises.
pub record TextPaintedColoured
    (image : List ℕ) (first rows : ℕ) (cells colours stamps scratch out : List ℕ) (answer : Written) (cells' colours' stamps' scratch' out' : List ℕ) : Type 0 where
  pub answered : answer ≡ written_of (text_coloured_verdict image first rows cells colours stamps scratch out) (length (picture_coloured_text image first rows))
  pub in_cells : cells' ≡ afterwards (text_coloured_verdict image first rows cells colours stamps scratch out) (picture_cells image first rows) cells
  pub in_colours : colours' ≡ afterwards (text_coloured_verdict image first rows cells colours stamps scratch out) (picture_colours image first rows) colours
  pub in_stamps : stamps' ≡ afterwards (text_coloured_verdict image first rows cells colours stamps scratch out) (replicate (room image rows) 0) stamps
  pub in_scratch : scratch' ≡ afterwards (text_coloured_verdict image first rows cells colours stamps scratch out) (replicate (scratch_room image) 0) scratch
  pub in_out : out' ≡ afterwards (text_coloured_verdict image first rows cells colours stamps scratch out) (picture_coloured_text image first rows) out
