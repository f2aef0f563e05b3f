-- `side_reach` joins what an edge with a SideChannel reaches.
use borrow.Author.Rules.{rules}
use Rattle.y_reach.proofs.Reached.{side_reached}
use Rattle.y_reach.proofs.side_reach.Goals as goal

pub returns : goal.returns
returns c = (
  side_reached _ _ _ _ _ _ _ _ _ _ _ _ _
      c.channel_reach.ensures.0
      (search rules) (search rules) (search rules) (search rules) (search rules) (search rules),
  search rules,
)
