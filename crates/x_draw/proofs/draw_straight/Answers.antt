-- `draw_straight` draws a straight leg.
use mathlib.Core.Path.{◌∙◌}
use Rattle.draw.proofs.Laws.{ready_then}
use Rattle.x_draw.proofs.Laws.{start_is_cell, straight_is_line, straight_inked}
use Rattle.x_draw.proofs.draw_straight.Goals as goal

pub draw_cell-requires : goal.draw_cell-requires
draw_cell-requires c = (start_is_cell _ _ _ _ _ c.own_start-start.ensures, c.requires.0)

pub draw_line-requires : goal.draw_line-requires
draw_line-requires c = (straight_is_line _ _ _ c.straight_line-line.ensures, ready_then _ _ _ _ _ _ _ _ _ c.draw_cell.ensures c.requires.0)

pub returns : goal.returns
returns c = straight_inked _ _ _ _ _ _ _ _ _ c.own_start-start.ensures c.straight_line-line.ensures c.draw_cell.ensures c.draw_line.ensures

pub straight_line-line-requires : goal.straight_line-line-requires
straight_line-line-requires c = c.requires.1

pub shape_of-cells : goal.shape_of-cells
shape_of-cells c = c.cells-2-1.given ∙ c.cells-1.given

pub shape_of-colours : goal.shape_of-colours
shape_of-colours c = c.colours-2-1.given ∙ c.colours-1.given

pub shape_of-stamps : goal.shape_of-stamps
shape_of-stamps c = c.stamps-2-1.given ∙ c.stamps-1.given
