-- `along_row` puts a line into a row, in the columns that it has.
use mathlib.Core.Path.{sym, ◌∙◌}
use Rattle.lines.proofs.Clipped.{along_strokes, along_arrows}
use Rattle.lines.proofs.cells.along_row.Goals as goal

pub returns-then-free_of-2 : goal.returns-then-free_of-2
returns-then-free_of-2 c =
    along_strokes _ _ _ _ _ _ _ _ _ _ _ c.min-end.ensures c.stroke_word-word.ensures.1
    (sym c.free_of.ensures ∙ c.if-free_of.true)
    (sym c.free_of-then-free_of.ensures ∙ c.if-free_of-2.true)
    c.strokes_along.ensures

pub returns : goal.returns
returns c = along_arrows _ _ _ _ _ _ _ _ _ _ _ c.min-end.ensures c.stroke_word-word.ensures.1 c.arrows_along.ensures
