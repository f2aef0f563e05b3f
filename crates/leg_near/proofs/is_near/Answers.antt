-- `is_near` answers no only of a leg that touches no row of the window.
use borrow.Author.Rules.{rules}
use Rattle.leg_near.proofs.Laws.{lies_above, lies_below}
use Rattle.leg_near.proofs.is_near.Goals as goal

pub returns-then-min-first : goal.returns-then-min-first
returns-then-min-first c t = lies_above _ _ _ _ _ c.corner_steps-more.ensures.0 _ c.max.ensures (search rules)

pub returns-else-min-first : goal.returns-else-min-first
returns-else-min-first c t = lies_below _ _ _ _ _ c.corner_steps-more.ensures.0 _ c.min.ensures (search rules)
