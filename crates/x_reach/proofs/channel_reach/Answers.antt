-- `channel_reach` joins what a trunk, two crossings, a channel and a tail reach.
use borrow.Author.Rules.{rules}
use Rattle.x_reach.proofs.Reached.{channel_joined}
use Rattle.x_reach.proofs.channel_reach.Goals as goal

pub returns : goal.returns
returns c = (
  channel_joined _ _ _ _ _ _ _ _ _ _ _ _ _ _
      c.with_horizontal.ensures.0
      c.crossing_reach-back.ensures.0
      c.with_horizontal-side.ensures.0
      c.crossing_reach-out.ensures.0
      (search rules),
  search rules,
)
