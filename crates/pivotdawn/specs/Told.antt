-- "Check and paint answer a code and a place; check adds the run count": place and run count as words that the caller lends.
use Rattle.std.specs.Prelude.{ℕ, List, ◌≡◌, set}
use Rattle.refusals.specs.declared.Answer.{Answer}
use Rattle.paint.specs.declared.Outcome.{Outcome}
use Rattle.painttext.specs.declared.Written.{Written}
use Rattle.painttext.specs.PaintedText.{TextPainted, TextPaintedColoured}
use Rattle.paintsheet.specs.PaintedSheet.{SheetPainted, SheetPaintedColoured}

-- of check: the place in word 0 and the run count in word 1, each where there is such a word; every other word as it was
abbrev pub told : Answer → List ℕ → List ℕ
told answer words = set (set words 0 answer.place) 1 answer.runs

-- of painting: the place in word 0, where there is one; every other word as it was
abbrev pub told_place : Outcome → List ℕ → List ℕ
told_place outcome words = set words 0 outcome.place

-- of text: the place in word 0 and "the bytes written" in word 1, each where there is such a word; every other word as it was
abbrev pub told_written : Written → List ℕ → List ℕ
told_written written words = set (set words 0 written.place) 1 written.bytes

-- What `pivotdawn_paint_text` promises: as `paint_text`, with the answer told as a code and words.
pub record TextTold
    (image : List ℕ) (first rows : ℕ) (cells scratch out words : List ℕ) (code : ℕ) (cells' scratch' out' words' : List ℕ) : Type 0 where
  -- what `paint_text` answers
  pub written : Written
  pub painted : TextPainted image first rows cells scratch out written cells' scratch' out'
  pub answered : code ≡ written.code
  pub in_words : words' ≡ told_written written words

-- What `pivotdawn_paint_text_coloured` promises.
pub record TextToldColoured
    (image : List ℕ) (first rows : ℕ) (cells colours stamps scratch out words : List ℕ) (code : ℕ)
    (cells' colours' stamps' scratch' out' words' : List ℕ) : Type 0 where
  -- what `paint_text_coloured` answers
  pub written : Written
  pub painted : TextPaintedColoured image first rows cells colours stamps scratch out written cells' colours' stamps' scratch' out'
  pub answered : code ≡ written.code
  pub in_words : words' ≡ told_written written words

-- What `pivotdawn_paint_sheet` promises: as `paint_sheet`, with the answer told as a code and a word.
pub record SheetTold (image : List ℕ) (band : ℕ) (cells scratch words : List ℕ) (code : ℕ) (cells' scratch' words' : List ℕ) : Type 0 where
  -- what `paint_sheet` answers
  pub outcome : Outcome
  pub painted : SheetPainted image band cells scratch outcome cells' scratch'
  pub answered : code ≡ outcome.code
  pub in_words : words' ≡ told_place outcome words

-- What `pivotdawn_paint_sheet_coloured` promises.
pub record SheetToldColoured
    (image : List ℕ) (band : ℕ) (cells colours stamps scratch words : List ℕ) (code : ℕ) (cells' colours' stamps' scratch' words' : List ℕ) : Type 0 where
  -- what `paint_sheet_coloured` answers
  pub outcome : Outcome
  pub painted : SheetPaintedColoured image band cells colours stamps scratch outcome cells' colours' stamps' scratch'
  pub answered : code ≡ outcome.code
  pub in_words : words' ≡ told_place outcome words
