-- `draw_leg` draws a leg of a MultiSegment, along the axis; one that lies far from the window is drawn already.
use Rattle.multi_draw.proofs.Laws.{leg_down, leg_across, leg_skipped}
use Rattle.multi_draw.proofs.draw_leg.Goals as goal

pub returns-in-Y : goal.returns-in-Y
returns-in-Y c = leg_down _ _ _ _ _ _ _ _ c.in-Y.is c.draw_leg.ensures

pub returns-in-X : goal.returns-in-X
returns-in-X c = leg_across _ _ _ _ _ _ _ _ _ _ c.in-X.is c.requires.0.room c.draw_leg-in-X.ensures

pub returns : goal.returns
returns c = leg_skipped _ _ _ _ _ _ _ c.is_near.ensures c.if-is_near.false c.requires.0.room
