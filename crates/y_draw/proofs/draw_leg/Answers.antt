-- `draw_leg` draws a leg of a MultiSegment.
use borrow.Author.Rules.{rules}
use Rattle.draw.proofs.Laws.{corner_small}
use Rattle.y_draw.proofs.Laws.{straight_leg, below_leg, bent_leg}
use Rattle.y_draw.proofs.draw_leg.Goals as goal

pub returns-then-leg : goal.returns-then-leg
returns-then-leg c = search (straight_leg, rules)

pub returns-in_default : goal.returns-in_default
returns-in_default c = search (below_leg, rules)

pub leg_bend-v-requires : goal.leg_bend-v-requires
leg_bend-v-requires c = (c.requires.1, corner_small _ _ c.in-Some.is c.corner_row-corner.ensures.1)

pub returns : goal.returns
returns c = bent_leg _ _ _ _ _ _ c.if-leg.false c.corner_row-corner.ensures.0 _ _ _ _ _ c.in-Some.is c.sign-s.ensures c.leg_bend-v.ensures.0 c.requires.2 c.draw_bent.ensures
