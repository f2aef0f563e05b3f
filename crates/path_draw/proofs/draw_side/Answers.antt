-- `draw_side` draws a SideChannel, along the axis.
use Rattle.path.specs.Pieces.{side_on}
use Rattle.path_draw.proofs.Laws.{side_along, side_across}
use Rattle.path_draw.proofs.draw_side.Goals as goal

pub returns-in-Y : goal.returns-in-Y
unfolding side_on
returns-in-Y c = side_along _ _ _ _ _ c.in-Y.is _ _ _ _ _ c.draw_side.ensures

pub returns-in-X : goal.returns-in-X
returns-in-X c = side_across _ _ _ _ c.in-X.is _ _ _ _ c.requires.0.room _ _ _ c.draw_side-in-X.ensures
