-- `draw_bent` draws a way that bends once.
use native.Mathlib.Omega.{arith}
use mathlib.Core.Path.{◌∙◌}
use Rattle.draw.proofs.Laws.{ready_then}
use Rattle.x_draw.proofs.Laws.{trunk_is_line, start_is_cell, tail_is_line, bent_inked}
use Rattle.x_draw.proofs.draw_bent.Goals as goal

pub draw_line-requires : goal.draw_line-requires
draw_line-requires c = (trunk_is_line _ _ _ c.trunk-trunk.ensures, c.requires.0)

pub draw_cell-requires : goal.draw_cell-requires
draw_cell-requires c = (start_is_cell _ _ _ _ _ c.own_start-start.ensures, ready_then _ _ _ _ _ _ _ _ _ c.draw_line.ensures c.requires.0)

pub corner_arrow-arrow-requires : goal.corner_arrow-arrow-requires
corner_arrow-arrow-requires c = c.requires.1

pub draw_crossing-requires : goal.draw_crossing-requires
draw_crossing-requires c = ready_then _ _ _ _ _ _ _ _ _ c.draw_cell.ensures (ready_then _ _ _ _ _ _ _ _ _ c.draw_line.ensures c.requires.0)

pub tail-tail-requires : goal.tail-tail-requires
tail-tail-requires c = omega arith

pub draw_line-requires-2 : goal.draw_line-requires-2
draw_line-requires-2 c = (tail_is_line _ _ _ _ _ _ c.tail-tail.ensures, ready_then _ _ _ _ _ _ _ _ _ c.draw_crossing.ensures (ready_then _ _ _ _ _ _ _ _ _ c.draw_cell.ensures (ready_then _ _ _ _ _ _ _ _ _ c.draw_line.ensures c.requires.0)))

pub shape_of-cells : goal.shape_of-cells
shape_of-cells c = c.cells-4-1.given ∙ c.cells-3-1.given ∙ c.cells-2-1.given ∙ c.cells-1.given

pub shape_of-colours : goal.shape_of-colours
shape_of-colours c = c.colours-4-1.given ∙ c.colours-3-1.given ∙ c.colours-2-1.given ∙ c.colours-1.given

pub shape_of-stamps : goal.shape_of-stamps
shape_of-stamps c = c.stamps-4-1.given ∙ c.stamps-3-1.given ∙ c.stamps-2-1.given ∙ c.stamps-1.given

pub returns : goal.returns
returns c = bent_inked _ _ _ _ _ _ _ _ _ _ _ _ _ c.trunk-trunk.ensures c.own_start-start.ensures c.corner_arrow-arrow.ensures c.tail-tail.ensures c.draw_line.ensures c.draw_cell.ensures c.draw_crossing.ensures c.draw_line-2.ensures
