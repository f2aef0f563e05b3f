-- `draw_corner` draws a corner, along the axis.
use Rattle.path.specs.Pieces.{corner_on}
use Rattle.path_draw.proofs.Laws.{corner_along, corner_across}
use Rattle.path_draw.proofs.draw_corner.Goals as goal

pub returns-in-Y : goal.returns-in-Y
unfolding corner_on
returns-in-Y c = corner_along _ _ _ _ _ c.in-Y.is _ _ _ c.draw_corner.ensures

pub returns-in-X : goal.returns-in-X
returns-in-X c = corner_across _ _ _ _ c.in-X.is _ _ _ _ c.requires.0.room _ c.draw_corner-in-X.ensures
