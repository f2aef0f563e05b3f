-- `leg_reach` joins what a leg of a MultiSegment reaches.
use borrow.Author.Rules.{rules}
use Rattle.y_reach.proofs.Reached.{straight_leg, below_leg, bent_leg}
use Rattle.y_reach.proofs.leg_reach.Goals as goal

pub returns-then-leg : goal.returns-then-leg
returns-then-leg c = (
  straight_leg _ _ _ _ _ _ _ c.with_vertical.ensures.0 c.with_row_if-start.ensures.0 (search rules),
  search rules,
)

pub returns-in_default : goal.returns-in_default
returns-in_default c = (search (below_leg, rules), search rules)

pub returns : goal.returns
returns c = (search (bent_leg, rules), search rules)
