-- `down` puts a line into a column, in the rows that the window has.
use mathlib.Core.Path.{sym, ◌∙◌}
use Rattle.lines.proofs.Clipped.{down_strokes, down_arrows}
use Rattle.lines.proofs.cells.down.Goals as goal

pub returns-then-free_of-2 : goal.returns-then-free_of-2
returns-then-free_of-2 c =
    down_strokes _ _ _ _ _ c.max-from.ensures c.min-end.ensures _ _ _ _ _ _ _ _ _ c.stroke_word-word.ensures.1
    (sym c.free_of.ensures ∙ c.if-free_of.true)
    (sym c.free_of-then-free_of.ensures ∙ c.if-free_of-2.true)
    c.strokes_down.ensures

pub returns : goal.returns
returns c =
    down_arrows _ _ _ _ _ c.max-from.ensures c.min-end.ensures _ _ _ _ _ _ _ _ _ c.stroke_word-word.ensures.1
    c.arrows_down.ensures
