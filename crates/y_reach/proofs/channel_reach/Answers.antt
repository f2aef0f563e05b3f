-- `channel_reach` joins what two crossings, a channel and a tail reach.
use borrow.Author.Rules.{rules}
use Rattle.y_reach.proofs.Reached.{channel_joined}
use Rattle.y_reach.proofs.channel_reach.Goals as goal

pub returns : goal.returns
returns c = (
  channel_joined _ _ _ _ _ _ _ _ _ _ _ _
      c.with_vertical.ensures.0
      c.crossing_reach-back.ensures.0
      c.with_vertical-side.ensures.0
      (search rules),
  search rules,
)
