-- `draw_crossing` draws a crossing and its two corners.
use mathlib.Core.Path.{◌∙◌}
use Rattle.draw.proofs.Laws.{ready_then}
use Rattle.x_draw.proofs.Laws.{crossing_is_line, first_is_cell, last_is_cell, crossing_inked}
use Rattle.x_draw.proofs.draw_crossing.Goals as goal

pub draw_line-requires : goal.draw_line-requires
draw_line-requires c = (crossing_is_line _ _ _ _ c.cross_line-line.ensures, c.requires)

pub draw_cell-requires : goal.draw_cell-requires
draw_cell-requires c = (first_is_cell _ _ _ _ _ _ _ c.cross_first-turn.ensures, ready_then _ _ _ _ _ _ _ _ _ c.draw_line.ensures c.requires)

pub draw_cell-requires-2 : goal.draw_cell-requires-2
draw_cell-requires-2 c = (last_is_cell _ _ _ _ _ _ c.cross_last-end.ensures, ready_then _ _ _ _ _ _ _ _ _ c.draw_cell.ensures (ready_then _ _ _ _ _ _ _ _ _ c.draw_line.ensures c.requires))

pub shape_of-cells : goal.shape_of-cells
shape_of-cells c = c.cells-3-1.given ∙ c.cells-2-1.given ∙ c.cells-1.given

pub shape_of-colours : goal.shape_of-colours
shape_of-colours c = c.colours-3-1.given ∙ c.colours-2-1.given ∙ c.colours-1.given

pub shape_of-stamps : goal.shape_of-stamps
shape_of-stamps c = c.stamps-3-1.given ∙ c.stamps-2-1.given ∙ c.stamps-1.given

pub returns : goal.returns
returns c = crossing_inked _ _ _ _ _ _ _ _ _ _ _ _ _ _ c.cross_line-line.ensures c.cross_first-turn.ensures c.cross_last-end.ensures c.draw_line.ensures c.draw_cell.ensures c.draw_cell-2.ensures
