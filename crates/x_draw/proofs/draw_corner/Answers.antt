-- `draw_corner` draws an edge with a Corner.
use Rattle.x_draw.proofs.Laws.{corner_inked}
use Rattle.x_draw.proofs.draw_corner.Goals as goal

pub returns : goal.returns
returns c = corner_inked _ _ _ _ _ _ _ _ _ c.requires.1 c.sign-s.ensures c.corner_bend-v.ensures.0 c.draw_bent.ensures

pub shape_of-cells : goal.shape_of-cells
shape_of-cells c = c.cells-1.given

pub shape_of-colours : goal.shape_of-colours
shape_of-colours c = c.colours-1.given

pub shape_of-stamps : goal.shape_of-stamps
shape_of-stamps c = c.stamps-1.given
