-- `draw_direct` draws the one line, along the axis.
use Rattle.path.specs.Pieces.{direct_on}
use Rattle.path_draw.proofs.Laws.{direct_along}
use Rattle.path_draw.proofs.draw_direct.Goals as goal

pub returns-in-Y : goal.returns-in-Y
unfolding direct_on
returns-in-Y c = direct_along _ _ _ _ _ c.in-Y.is _ _ c.draw_direct.ensures

pub returns-in-X : goal.returns-in-X
unfolding direct_on
returns-in-X c = direct_along _ _ _ _ _ c.in-X.is _ _ c.draw_direct-in-X.ensures
