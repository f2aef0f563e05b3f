-- `draw_leg` draws a leg of a MultiSegment.
use Rattle.draw.proofs.Laws.{corner_small}
use Rattle.x_draw.proofs.Laws.{straight_leg, below_leg, bent_leg}
use Rattle.x_draw.proofs.draw_leg.Goals as goal

pub returns-then-leg : goal.returns-then-leg
returns-then-leg c = straight_leg _ _ _ _ _ _ _ c.if-leg.true c.draw_straight.ensures

pub returns-in_default : goal.returns-in_default
returns-in_default c = below_leg _ _ _ _ _ _ c.if-leg.false c.corner_column-corner.ensures.0 _ c.in_default.is

pub leg_bend-v-requires : goal.leg_bend-v-requires
leg_bend-v-requires c = (c.requires.1, corner_small _ _ c.in-Some.is c.corner_column-corner.ensures.1)

pub returns : goal.returns
returns c = bent_leg _ _ _ _ _ _ c.if-leg.false c.corner_column-corner.ensures.0 _ _ _ _ _ _ c.in-Some.is c.requires.2 c.sign-s.ensures c.leg_bend-v.ensures.0 c.draw_bent.ensures

pub shape_of-cells-then-leg : goal.shape_of-cells-then-leg
shape_of-cells-then-leg c = c.cells-1.given

pub shape_of-colours-then-leg : goal.shape_of-colours-then-leg
shape_of-colours-then-leg c = c.colours-1.given

pub shape_of-stamps-then-leg : goal.shape_of-stamps-then-leg
shape_of-stamps-then-leg c = c.stamps-1.given

pub shape_of-cells : goal.shape_of-cells
shape_of-cells c = c.cells-2-1.given

pub shape_of-colours : goal.shape_of-colours
shape_of-colours c = c.colours-2-1.given

pub shape_of-stamps : goal.shape_of-stamps
shape_of-stamps c = c.stamps-2-1.given
