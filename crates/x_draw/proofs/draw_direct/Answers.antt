-- `draw_direct` draws a Direct edge.
use Rattle.x_draw.proofs.Laws.{direct_is_line, direct_inked}
use Rattle.x_draw.proofs.draw_direct.Goals as goal

pub draw_line-requires : goal.draw_line-requires
draw_line-requires c = (direct_is_line _ _ c.direct-piece.ensures, c.requires)

pub returns : goal.returns
returns c = direct_inked _ _ _ _ _ _ c.direct-piece.ensures c.draw_line.ensures

pub shape_of-cells : goal.shape_of-cells
shape_of-cells c = c.cells-1.given

pub shape_of-colours : goal.shape_of-colours
shape_of-colours c = c.colours-1.given

pub shape_of-stamps : goal.shape_of-stamps
shape_of-stamps c = c.stamps-1.given
